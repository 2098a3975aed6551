use Rattle.std.proofs.Common.{◌≡◌, true}
use Rattle.asm_state.specs.code.Contents.{IsStateOf}
use Rattle.asm_state.specs.Signature.{state_of}
use Rattle.asm_random.specs.code.ResolvedRuns.{IsPassed, crowds_in, rests_in, right_in, shape_in, specification_in}
use Rattle.asm_random.proofs.RunsSoFar.{IsFineTo}
use Rattle.asm_random.proofs.bad_end.wrong_under.Given as goal

abbrev pub invariant-loop-done : goal.invariant-loop-done
invariant-loop-done g l =
    let m = l.specified in
    let A = state_of (shape_in m) l.at.state in
    record {
      kept : IsStateOf (shape_in m) l.at.state;
      fine : IsFineTo (specification_in m) m.turns (crowds_in m) (right_in m) (rests_in m) (g.P.Picks.script l.script) l.done A;
      -- a state that stayed was looked at
      looked : l.at.stays ≡ true → IsPassed m A;
    }
