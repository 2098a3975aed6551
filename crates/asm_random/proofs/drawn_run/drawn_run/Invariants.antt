use Rattle.std.proofs.Common.{◌≡◌, length}
use Rattle.asm_state.specs.code.Contents.{IsStateOf}
use Rattle.asm_state.specs.Signature.{state_of}
use Rattle.asm_reader.specs.ExactLines.{exactly}
use Rattle.asm_meaning.specs.Run.{IsAfter}
use Rattle.asm_random.specs.code.Drafts.{draft_lines}
use Rattle.asm_random.specs.DrawnTexts.{IsDrawnTo}
use Rattle.asm_random.specs.code.ResolvedRuns.{right_in, shape_in, specification_in}
use Rattle.asm_random.proofs.drawn_run.drawn_run.Given as goal

abbrev pub invariant-loop-done : goal.invariant-loop-done
invariant-loop-done l =
    let m = l.specified in
    let script = exactly (draft_lines l.draft) in
    record {
      kept : IsStateOf (shape_in m) l.state;
      count : length l.draft.steps.items ≡ l.done;
      after : IsAfter (specification_in m) m.turns script l.done (state_of (shape_in m) l.state);
      drawn : IsDrawnTo (specification_in m) m.turns (right_in m) l.fn.seed script l.done;
    }
