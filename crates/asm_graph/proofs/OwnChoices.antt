-- Free. The choices that a step makes.
--     AreMakingLaws, IsScriptLaw    what laws of the crates below say
--     taken_along         who has a line for each of some choices takes them, if no two are at one
--                         path
--     chosen_apart        no two choices of a step are at one path
--     told_again          who takes the choices that a step makes has it tell the same story
--     chosen_again        so it makes the same choices,
--     yields_again        and yields the same
--     chosen_along        the choices of a step are those that the step along them makes
use Rattle.std.proofs.Common.{◌≡◌, ◌∙◌, ℕ, List, [], ◌∷◌, ap, sym}
use Rattle.asm_state.specs.Location.{State}
use Rattle.asm_syntax.specs.Tree.{Rule}
use Rattle.asm_reader.specs.ExactLines.{exactly}
use Rattle.asm_reader.specs.ScriptLines.{Script}
use Rattle.asm_meaning.specs.Does.{Outcome}
use Rattle.asm_meaning.specs.Program.{Environment, Program, nothing_bound}
use Rattle.asm_meaning.specs.Run.{Specification}
use Rattle.asm_meaning.specs.Story.{outcome_of, step_tells}
use Rattle.asm_meaning.specs.StoryLaws.{AreToldOutcomes}
use Rattle.asm_meaning.specs.Yields.{Path}
use Rattle.asm_explore.specs.declared.outcomes.listed_outcome.Choice.{Choice}
use Rattle.asm_explore.specs.ChoiceLines.{lines_of}
use Rattle.asm_explore.specs.ChoicePoints.{asked, choices_of}
use Rattle.asm_explore.specs.ChoicesMadeLaws.{MakingLaws}
use Rattle.asm_explore.specs.RunChoices.{chosen_from}
use Rattle.asm_explore.specs.TakenChoices.{AreTaken, HaveOwnPaths, Situation, steps_from}
use Rattle.asm_explore.specs.code.OutcomeLists.{Each}
use Rattle.asm_explore.specs.code.ReachedStates.{MakesAll}
use Rattle.asm_graph.specs.Graphs.{along}

abbrev pub AreMakingLaws : Type 0
AreMakingLaws = (program : Program) (turns : ℕ) (script : Script) (step : ℕ) (A : State) (e : Environment) (p : Path) (R : Rule) → MakingLaws program turns script step A e p R

abbrev pub IsScriptLaw : Type 0
IsScriptLaw = (back : List (List Choice)) → Each HaveOwnPaths back → MakesAll (exactly (lines_of back)) back

pub taken_along : IsScriptLaw → (cs : List Choice) → HaveOwnPaths cs → AreTaken (along cs) cs
taken_along makes cs apart = (makes (cs ∷ []) (apart, tt)).0

module _ (making : AreMakingLaws) (specification : Specification) (turns : ℕ) (A : State) where
  abbrev made_in : (s : Situation) → MakingLaws specification.program turns s.script s.step A nothing_bound [] specification.main
  made_in s = making specification.program turns s.script s.step A nothing_bound [] specification.main

  pub chosen_apart : (s : Situation) → HaveOwnPaths (chosen_from specification turns A s)
  chosen_apart s = (made_in s).placed.apart

  module _ (s t : Situation) (taken : AreTaken t (chosen_from specification turns A s)) where
    pub told_again : step_tells specification turns t.script t.step A ≡ step_tells specification turns s.script s.step A
    told_again = (made_in s).alike t.script t.step taken

    pub chosen_again : chosen_from specification turns A t ≡ chosen_from specification turns A s
    chosen_again = ap (λ story. choices_of (asked story)) told_again

    pub yields_again : AreToldOutcomes → steps_from specification turns A t ≡ steps_from specification turns A s
    yields_again told =
        sym (ap (λ (o : Outcome). o.result) (told specification.program turns t.script t.step A nothing_bound [] specification.main))
        ∙ ap (λ story. (outcome_of story).result) told_again
        ∙ ap (λ (o : Outcome). o.result) (told specification.program turns s.script s.step A nothing_bound [] specification.main)

  pub chosen_along : IsScriptLaw → (s : Situation) → chosen_from specification turns A (along (chosen_from specification turns A s)) ≡ chosen_from specification turns A s
  chosen_along makes s = chosen_again s (along (chosen_from specification turns A s)) (taken_along makes (chosen_from specification turns A s) (chosen_apart s))
