-- Definition. The rows of a run: one for each step that it makes, the step that ends it with them.
--     Row                what the step asks, the state that it begins in, and the state that it
--                        leads to, unless the run ends in it
--     led A r            where a step from the state A leads that yields this
--     row_of             the row of the step from a state
--     rows_of            those of the run under a script
--     differs l row      the value of a location isn't the same before and after the step
--     changes l rows     it differs in one of the rows
--     chooses rows       something is asked in one of them
use Rattle.std.specs.Prelude.{ℕ, Bool, true, false, not, cond, List, [], ◌∷◌, Option, Some, None}
use Rattle.std.specs.List.{list_any}
use Rattle.asm_state.specs.Location.{Location, State}
use Rattle.asm_state.specs.Operation.{is_same}
use Rattle.asm_state.specs.Updates.{fire, is_consistent}
use Rattle.asm_syntax.specs.SourceTree.{Spec}
use Rattle.asm_reader.specs.ScriptLines.{Script}
use Rattle.asm_meaning.specs.Declarations.{specification_of}
use Rattle.asm_meaning.specs.Run.{Specification}
use Rattle.asm_meaning.specs.Yields.{Result, Gives, Exhausted}
use Rattle.asm_explore.specs.ChoicePoints.{Asking}
use Rattle.asm_explore.specs.RunChoices.{asked_from, of_run}
use Rattle.asm_explore.specs.TakenChoices.{Situation, steps_from}

pub record Row : Type 0 where
  pub asked : List Asking
  pub before : State
  pub after : Option State

abbrev pub led : State → Result → Option State
led A (Exhausted q) = None
led A (Gives U) = cond (is_consistent U) (Some (fire A U)) None

abbrev pub row_of : Specification → (turns : ℕ) → State → Situation → Row
row_of specification turns A s = record { asked = asked_from specification turns A s; before = A; after = led A (steps_from specification turns A s) }

abbrev pub rows_of : Spec → (turns : ℕ) → Script → (limit : ℕ) → List Row
rows_of s turns script limit = of_run (specification_of s) turns (row_of (specification_of s) turns) script limit

-- ---- what they show

abbrev pub differs_after : Location → State → Option State → Bool
differs_after l A None = false
differs_after l A (Some B) = not (is_same (A l) (B l))

abbrev pub differs : Location → Row → Bool
differs l row = differs_after l row.before row.after

abbrev pub changes : Location → List Row → Bool
changes l rows = list_any (differs l) rows

abbrev pub asks : List Asking → Bool
asks [] = false
asks (a ∷ asked) = true

abbrev pub chooses : List Row → Bool
chooses rows = list_any (λ row. asks row.asked) rows
