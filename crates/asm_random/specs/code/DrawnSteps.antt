-- Bridge to the code. The steps of a run that is drawn, one after the other.
--     asked_under m draft old step    what the step asks under a draft, if the locations have these
--                                     contents
--     right_to m                      which states are right
--     IsSilent specification turns A  no choice is made in the step from the state, and it yields the
--                                     same under each script
--     EndsRun specification turns script i A    the step has a fault
--     GoesOn .. shape old next        where the step leads from these contents, unless it has one
use Rattle.std.specs.Prelude.{◌≡◌, ◌⊎◌, ℕ, List, [], Option, None, Some}
use Rattle.asm_state.specs.code.Contents.{IsStateOf}
use Rattle.asm_state.specs.Location.{State}
use Rattle.asm_state.specs.Signature.{Shape, state_of}
use Rattle.asm_state.specs.Updates.{UpdateSet, IsConsistent}
use Rattle.asm_state.specs.declared.value.Value.{Value}
use Rattle.asm_reader.specs.ExactLines.{exactly}
use Rattle.asm_reader.specs.ScriptLines.{Script}
use Rattle.asm_meaning.specs.Run.{IsStep, Specification}
use Rattle.asm_meaning.specs.Yields.{Path, Gives, Exhausted}
use Rattle.asm_explore.specs.ChoicePoints.{Asking}
use Rattle.asm_explore.specs.RunChoices.{asked_from}
use Rattle.asm_explore.specs.declared.resolved_question.ResolvedQuestion.{ResolvedQuestion}
use Rattle.asm_random.specs.declared.draft.Draft.{Draft}
use Rattle.asm_random.specs.code.Drafts.{draft_lines}
use Rattle.asm_random.specs.DrawnTexts.{at_step}
use Rattle.asm_random.specs.code.ResolvedRuns.{shape_in, specification_in}
use Rattle.asm_random.specs.code.WrongSteps.{IsSameForAll, yields}

abbrev pub asked_under : ResolvedQuestion → Draft → (old : List Value) → (step : ℕ) → List Asking
asked_under m draft old step = asked_from (specification_in m) m.turns (state_of (shape_in m) old) (at_step (exactly (draft_lines draft)) step)

module _ (specification : Specification) (turns : ℕ) where
  pub record IsSilent (A : State) : Type 0 where
    pub silent : (script : Script) (step : ℕ) → asked_from specification turns A (at_step script step) ≡ []
    pub alike : IsSameForAll specification turns A

  module _ (script : Script) (i : ℕ) where
    abbrev pub EndsRun : State → Type 0
    EndsRun A = ((q : Path) × (yields specification turns script i A ≡ Exhausted q)) ⊎ ((U : UpdateSet) × (yields specification turns script i A ≡ Gives U) × ¬ (IsConsistent U))

    abbrev pub GoesOn : Shape → (old : List Value) → Option (List Value) → Type 0
    GoesOn shape old None = EndsRun (state_of shape old)
    GoesOn shape old (Some next) = IsStateOf shape next × IsStep specification turns script i (state_of shape old) (state_of shape next)
