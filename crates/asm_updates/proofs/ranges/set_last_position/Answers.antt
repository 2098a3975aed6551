use Rattle.std.proofs.Common.{ℕ, ◌-◌, length, eqb, cond, ap, sym, ◌∙◌, arith}
use Rattle.asm_state.specs.declared.value.Value.{Value}
use Rattle.asm_updates.specs.code.Positions.{position_of}
use Rattle.asm_updates.proofs.IndexedRanges.{placed_more, key_at}
use Rattle.asm_updates.proofs.ranges.set_last_position.Goals as goal

pub returns-then-placed : goal.returns-then-placed
returns-then-placed c = λ is j h.
    let es = c.args.entries.now in
    let last = length es - 1 in
    let e = c.index-entries-last.result in
    placed_more es last e.0 (position_of c.args.positions.now) (position_of c.set_position.new.self) c.requires.unique
    (omega (arith, c.requires.some), key_at es last e (omega (arith, c.requires.some)) c.index-entries-last.is)
    (λ k. c.set_position.ensures is k ∙ ap (λ (x : ℕ × (Value × Value)). cond (eqb k x.0) last (position_of c.args.positions.now k)) (sym c.index-entries-last.is)) (λ i before. c.requires.before c.if-placed.true i (omega (arith, before))) j (omega (arith, h))
