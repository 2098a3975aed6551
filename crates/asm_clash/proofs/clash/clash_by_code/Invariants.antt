use Rattle.std.proofs.Common.{◌≡◌, length}
use Rattle.asm_state.specs.Signature.{count_of, state_of}
use Rattle.asm_meaning.specs.Run.{IsAfter}
use Rattle.asm_step.specs.code.Steps.{shape_in, specification_in}
use Rattle.asm_clash.proofs.clash.clash_by_code.Given as goal

abbrev pub invariant-loop-done : goal.invariant-loop-done
invariant-loop-done l =
    let m = l.resolved in
    record {
      whole : length l.state ≡ count_of (shape_in m);
      fits : l.forming.set.count ≡ count_of (shape_in m);
      after : IsAfter (specification_in m) m.turns l.script l.done (state_of (shape_in m) l.state);
    }
