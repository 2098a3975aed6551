use Rattle.asm_state.specs.code.Contents.{IsStateOf}
use Rattle.asm_state.specs.Signature.{state_of}
use Rattle.asm_meaning.specs.Run.{IsAfter}
use Rattle.asm_step.specs.code.Steps.{shape_in, specification_in}
use Rattle.asm_step.proofs.states.state_after.Given as goal

-- the state after the steps that are done
abbrev pub invariant-loop-done : goal.invariant-loop-done
invariant-loop-done g l =
    let m = l.resolved in
    record {
      state : IsStateOf (shape_in m) l.state;
      after : IsAfter (specification_in m) m.turns (g.P.Picks.script l.script) l.done (state_of (shape_in m) l.state);
    }
