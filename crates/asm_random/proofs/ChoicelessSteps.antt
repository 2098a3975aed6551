-- Free. A step that makes no choice yields the same under each script.
use Rattle.std.proofs.Common.{◌≡◌, ◌∙◌, ℕ, [], ap, sym, subst}
use Rattle.asm_state.specs.Location.{State}
use Rattle.asm_reader.specs.ScriptLines.{Script, pick}
use Rattle.asm_meaning.specs.Does.{Outcome}
use Rattle.asm_meaning.specs.Program.{nothing_bound}
use Rattle.asm_meaning.specs.Run.{Specification}
use Rattle.asm_meaning.specs.Story.{outcome_of, step_tells}
use Rattle.asm_meaning.specs.StoryLaws.{AreToldOutcomes}
use Rattle.asm_explore.specs.ChoicePoints.{asked, choices_of}
use Rattle.asm_explore.specs.ChoicesMadeLaws.{MakingLaws, Takes}
use Rattle.asm_random.specs.code.WrongSteps.{IsSameForAll, yields}

module _ (told : AreToldOutcomes) (specification : Specification) (turns : ℕ) (drawn : Script) (at : ℕ) (A : State) where
  pub same_for_all : MakingLaws specification.program turns drawn at A nothing_bound [] specification.main → asked (step_tells specification turns drawn at A) ≡ [] → IsSameForAll specification turns A
  same_for_all making nothing = λ script other step later. yielded script step ∙ sym (yielded other later)
    where
      taken : (other : Script) (later : ℕ) → Takes (pick other later) (choices_of (asked (step_tells specification turns drawn at A)))
      taken other later = subst (λ xs. Takes (pick other later) (choices_of xs)) (sym nothing) tt

      yielded : (script : Script) (step : ℕ) → yields specification turns script step A ≡ (outcome_of (step_tells specification turns drawn at A)).result
      yielded script step =
          ap (λ (o : Outcome). o.result)
          (sym (told specification.program turns script step A nothing_bound [] specification.main) ∙ ap outcome_of (making.alike script step (taken script step)))
