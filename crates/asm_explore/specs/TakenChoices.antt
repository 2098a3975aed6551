-- Definition. Choices that a script takes in a step.
--     Situation            who says what is taken: a script, in a step
--     AreTaken s cs        the script takes these choices in this step
--     LiesAt p q           the path q is p, or leads on from it
--     HaveOwnPaths cs      no two choices have one path
--     steps_from           what the step from a state yields in each situation
use Rattle.std.specs.Prelude.{◌≡◌, ◌≢◌, ℕ, List, [], ◌∷◌, ◌++◌}
use Rattle.asm_state.specs.Location.{State}
use Rattle.asm_reader.specs.ScriptLines.{Script, pick}
use Rattle.asm_meaning.specs.Run.{Specification, step}
use Rattle.asm_meaning.specs.Yields.{Path, Result}
use Rattle.asm_explore.specs.declared.outcomes.listed_outcome.Choice.{Choice}
use Rattle.asm_explore.specs.ListElements.{Each}

pub record Situation : Type 0 where
  pub script : Script
  pub step : ℕ

abbrev pub picked : Situation → List ℕ → ℕ
picked s = pick s.script s.step

abbrev pub IsTaken : Situation → Choice → Type 0
IsTaken s c = picked s c.path ≡ c.number

abbrev pub AreTaken : Situation → List Choice → Type 0
AreTaken s cs = Each (IsTaken s) cs

abbrev pub LiesAt : Path → Path → Type 0
LiesAt p q = (r : Path) × (q ≡ p ++ r)

abbrev pub HaveOwnPaths : List Choice → Type 0
HaveOwnPaths [] = Unit {0}
HaveOwnPaths (c ∷ cs) = Each (λ d. c.path ≢ d.path) cs × HaveOwnPaths cs

abbrev pub steps_from : Specification → (turns : ℕ) → State → Situation → Result
steps_from specification turns A s = (step specification turns s.script s.step A).result
