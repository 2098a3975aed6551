-- Definition. The choices of the steps of a run, and the script that has a line for each.
--     from_step, of_run       of each step that a run under a script makes, what belongs to the
--                             state that it begins in: the step that ends the run is among them
--     lines_from i steps      a line for each choice of some steps that count from i
--     lines_forward steps     with steps that count from 1
--     MakesTheRun             no two lines have one step and one path, and under them the run is
--                             the same
--     asked_said, asked_in    what was asked; in each step
--     choices_made, choices_in    the choices that were made; in each step
--     asked_from, chosen_from     what the main rule asks in a step from a state, and the choices
--                             that it makes
--     AreAsked                it is what the main rule asks in each step of the run
--     AreChoices              and these are the choices that it makes
use Rattle.std.specs.Prelude.{◌≡◌, ℕ, zero, suc, List, [], ◌∷◌, ◌++◌, map}
use Rattle.asm_state.specs.Location.{State}
use Rattle.asm_state.specs.Updates.{fire}
use Rattle.asm_syntax.specs.SourceTree.{Spec}
use Rattle.asm_reader.specs.ExactLines.{exactly}
use Rattle.asm_reader.specs.ScriptLines.{Line, Script}
use Rattle.asm_meaning.specs.Declarations.{specification_of}
use Rattle.asm_meaning.specs.Run.{Specification, run}
use Rattle.asm_meaning.specs.Scripts.{IsUnrepeated}
use Rattle.asm_meaning.specs.Story.{step_tells}
use Rattle.asm_explore.specs.declared.choices.choice_point.ChoicePoint.{ChoicePoint}
use Rattle.asm_explore.specs.declared.outcomes.listed_outcome.Choice.{Choice}
use Rattle.asm_explore.specs.declared.choices.run_choices.RunChoices.{RunChoices}
use Rattle.asm_explore.specs.ChoicePoints.{Asking, choices_of, asked, after_set}
use Rattle.asm_explore.specs.TakenChoices.{Situation, steps_from}
use Rattle.asm_explore.specs.ChoiceLines.{lines_for}

-- ---- the steps of a run

module _ {X : Type 0} (specification : Specification) (turns : ℕ) (its : State → Situation → X) (script : Script) where
  -- of at most `left` steps; the first has the number i and begins in the state A
  abbrev pub from_step : (left i : ℕ) → State → List X
  from_step zero i A = []
  from_step (suc left) i A =
      let s : Situation = record { script = script; step = i } in
      its A s ∷ after_set (steps_from specification turns A s) (λ U. from_step left (suc i) (fire A U))

  abbrev pub of_run : (limit : ℕ) → List X
  of_run limit = from_step limit 1 specification.initial

-- ---- the script

abbrev pub lines_from : (step : ℕ) → List (List Choice) → List Line
lines_from i [] = []
lines_from i (cs ∷ steps) = lines_for i cs ++ lines_from (suc i) steps

abbrev pub lines_forward : List (List Choice) → List Line
lines_forward steps = lines_from 1 steps

pub record MakesTheRun (specification : Specification) (turns : ℕ) (script : Script) (limit : ℕ) (lines : List Line) : Type 0 where
  pub unrepeated : IsUnrepeated (exactly lines)
  pub again : run specification turns (exactly lines) limit ≡ run specification turns script limit

-- ---- what a run asked

abbrev pub asked_said : ChoicePoint → Asking
asked_said a = record { choice = a.choice; candidates = a.candidates.items }

abbrev pub asked_in : RunChoices → List (List Asking)
asked_in run = map (λ asked. map asked_said asked.items) run.steps.items

abbrev pub choices_made : List ChoicePoint → List Choice
choices_made asked = map (λ a. a.choice) asked

abbrev pub choices_in : RunChoices → List (List Choice)
choices_in run = map (λ asked. choices_made asked.items) run.steps.items

module _ (specification : Specification) (turns : ℕ) where
  abbrev pub asked_from : State → Situation → List Asking
  asked_from A s = asked (step_tells specification turns s.script s.step A)

  abbrev pub chosen_from : State → Situation → List Choice
  chosen_from A s = choices_of (asked_from A s)

module _ (spec : Spec) (turns : ℕ) (script : Script) (limit : ℕ) where
  abbrev pub AreAsked : List (List Asking) → Type 0
  AreAsked steps = steps ≡ of_run (specification_of spec) turns (asked_from (specification_of spec) turns) script limit

  abbrev pub AreChoices : List (List Choice) → Type 0
  AreChoices steps = steps ≡ of_run (specification_of spec) turns (chosen_from (specification_of spec) turns) script limit
