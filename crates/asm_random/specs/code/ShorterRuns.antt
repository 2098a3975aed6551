-- Bridge to the code. What is kept when a run is made shorter.
--     IsWrongFor m most run      the run goes wrong that is looked for, in one of `most` steps
--     StaysWrong m old new       if the one does, the other does, in no later step; if the one ends
--                                in a deadlock, so does the other, and if not, it doesn't
use Rattle.std.specs.Prelude.{◌≡◌, ◌≤◌, ℕ}
use Rattle.asm_explore.specs.declared.resolved_question.ResolvedQuestion.{ResolvedQuestion}
use Rattle.asm_random.specs.declared.bad_draft.BadDraft.{BadDraft}
use Rattle.asm_random.specs.code.DraftSteps.{IsWrongDraft}
use Rattle.asm_random.specs.code.FaultKinds.{is_deadlock}

module _ (m : ResolvedQuestion) where
  abbrev pub IsWrongFor : (most : ℕ) → BadDraft → Type 0
  IsWrongFor most run = IsWrongDraft m most run.draft run.wrong.step run.wrong.fault

  pub record StaysWrong (old new : BadDraft) : Type 0 where
    pub wrong : (most : ℕ) → IsWrongFor most old → IsWrongFor most new
    pub no_later : new.wrong.step ≤ old.wrong.step
    pub kind : is_deadlock new.wrong.fault ≡ is_deadlock old.wrong.fault
