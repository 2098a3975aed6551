use Rattle.std.proofs.Common.{arith, sym, subst, get_or, take}
use Rattle.std.proofs.lemmas.List.{take_all, take_more}
use Rattle.asm_reader.specs.code.PathNumbers.{HasPathNumber}
use Rattle.asm_reader.proofs.ScriptLemmas.FoundLines.{placed_more, room_more}
use Rattle.asm_reader.proofs.path_numbers.number_for_path.Goals as goal

pub loop-number-preserved : goal.loop-number-preserved
loop-number-preserved c =
    let old = c.args.ways.now.entries in
    let path = c.args.path.now in
    let i = c.loop-number.number-index in
    let next = c.in_ok-path_number.ensures in
    let more = room_more c.loop-number.ways.entries c.number_for_next.new.ways.entries c.loop-number.path_number (get_or path i 0) c.in_ok-path_number.path_number next in
    record {
      placed = subst (λ p. HasPathNumber old p c.in_ok-path_number.path_number c.number_for_next.new.ways.entries) (sym (take_more path i 0 c.loop-number-test.true))
          (placed_more old c.loop-number.ways.entries c.number_for_next.new.ways.entries (take i path) c.loop-number.path_number (get_or path i 0) c.in_ok-path_number.path_number c.loop-number.invariant.placed next);
      room = omega (arith, c.loop-number.invariant.room, more);
    }

pub returns-clause-placed : goal.returns-clause-placed
returns-clause-placed c =
    subst (λ p. HasPathNumber c.args.ways.now.entries p c.loop-number.path_number c.loop-number.ways.entries) (take_all c.loop-number.number-index c.args.path.now (omega arith)) c.loop-number.invariant.placed
