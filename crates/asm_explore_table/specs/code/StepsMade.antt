-- Bridge to the code. Steps as the code makes them, and names as it is given them.
--     row_said shape contents row     the row of a step that begins in the state with these contents
--     situation script step           a script, in a step
--     rest_rows                       the rows of what is left of a run
--     names_said names                the texts of the names
--     column_by                       a location is a column, if it is named, or changes where no
--                                     names are given
--     AreMarked chooses marks         the first mark says whether something is chosen, and no other does
--     AreBlocks chooses blocks        the first block has a column of what is chosen just if something
--                                     is, and no other has one
--     AreWithin count blocks          each column is of a location with a number below this
use Rattle.std.specs.Prelude.{◌≡◌, ◌<◌, ◌+◌, ◌-◌, ◌&&◌, ℕ, Bool, false, List, [], ◌∷◌, All, map, option_map, is_some}
use Rattle.std.specs.Borrow.{Bor}
use Rattle.std.specs.List.{list_any}
use Rattle.asm_state.specs.Location.{Location}
use Rattle.asm_state.specs.Signature.{Shape, state_of}
use Rattle.asm_state.specs.Updates.{is_proper}
use Rattle.asm_state.specs.declared.value.Value.{Value}
use Rattle.asm_reader.specs.ScriptLines.{Script}
use Rattle.asm_syntax.specs.SourceTree.{Spec}
use Rattle.asm_step.specs.code.Steps.{shape_in, specification_in}
use Rattle.asm_step.specs.declared.resolved_specification.ResolvedSpecification.{ResolvedSpecification}
use Rattle.asm_explore.specs.RunChoices.{asked_said, from_step}
use Rattle.asm_explore.specs.TakenChoices.{Situation}
use Rattle.asm_explore_table.specs.Rows.{Row, row_of}
use Rattle.asm_explore_table.specs.Tables.{is_named}
use Rattle.asm_explore_table.specs.declared.block.Block.{Block}
use Rattle.asm_explore_table.specs.declared.step_row.StepRow.{StepRow}

abbrev pub row_said : Shape → (contents : List Value) → StepRow → Row
row_said shape contents row = record { asked = map asked_said row.asked.items; before = state_of shape contents; after = option_map (state_of shape) row.next }

abbrev pub situation : Script → (step : ℕ) → Situation
situation script step = record { script = script; step = step }

module _ (m : ResolvedSpecification) (script : Script) (limit : ℕ) where
  -- after so many steps, in the state with these contents
  abbrev pub rest_rows : (done : ℕ) → (contents : List Value) → List Row
  rest_rows done contents = from_step (specification_in m) m.turns (row_of (specification_in m) m.turns) script (limit - done) (done + 1) (state_of (shape_in m) contents)

abbrev pub names_said : List (Bor (List ℕ)) → List (List ℕ)
names_said names = map (λ name. name.now) names

abbrev pub column_by : Spec → (names : List (List ℕ)) → (changes : Bool) → Location → Bool
column_by s [] changes l = is_proper l && changes
column_by s (name ∷ names) changes l = is_proper l && is_named s (name ∷ names) l

abbrev pub AreMarked : (chooses : Bool) → List Bool → Type 0
AreMarked chooses [] = ⊥
AreMarked chooses (head ∷ others) = (head ≡ chooses) × (list_any (λ mark. mark) others ≡ false)

abbrev pub AreBlocks : (chooses : Bool) → List Block → Type 0
AreBlocks chooses blocks = AreMarked chooses (map (λ block. is_some block.chosen) blocks)

abbrev pub IsWithin : (count : ℕ) → Block → Type 0
IsWithin count block = All (λ c. c.location < count) block.columns.items

abbrev pub AreWithin : (count : ℕ) → List Block → Type 0
AreWithin count blocks = All (IsWithin count) blocks
