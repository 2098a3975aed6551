use Rattle.std.proofs.Common.{◌≡◌, true, length}
use Rattle.asm_state.specs.code.Contents.{IsStateOf}
use Rattle.asm_state.specs.Signature.{state_of}
use Rattle.asm_reader.specs.ExactLines.{exactly}
use Rattle.asm_random.specs.code.Drafts.{draft_lines}
use Rattle.asm_random.specs.code.ResolvedRuns.{IsPassed, crowds_in, rests_in, right_in, shape_in, specification_in}
use Rattle.asm_random.proofs.RunsSoFar.{IsFineTo}
use Rattle.asm_random.proofs.random_run.random_run.Given as goal

abbrev pub invariant-loop-done : goal.invariant-loop-done
invariant-loop-done l =
    let m = l.specified in
    let A = state_of (shape_in m) l.at.state in
    record {
      kept : IsStateOf (shape_in m) l.at.state;
      drawn : length l.draft.steps.items ≡ l.done;
      fine : IsFineTo (specification_in m) m.turns (crowds_in m) (right_in m) (rests_in m) (exactly (draft_lines l.draft)) l.done A;
      -- a state that stayed was looked at
      looked : l.at.stays ≡ true → IsPassed m A;
    }
