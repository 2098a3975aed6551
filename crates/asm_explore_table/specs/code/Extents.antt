-- Bridge to the code. What is found of a run before its table is written.
--     HasRoom count extent              it has an entry for each of so many locations
--     AreShort most texts               none of the texts is longer
--     IsWidened s old row new           what is found with one row more
--     IsExtentOf s first extent rows    which locations change in the rows, whether something is asked
--                                       in one, how many there are, and how wide the texts are that
--                                       stand below the names of functions
use Rattle.std.specs.Prelude.{◌≡◌, ◌≤◌, ◌<◌, ◌||◌, ◌+◌, ◌^◌, All, ℕ, false, List, length, slice_index_or}
use Rattle.asm_state.specs.Location.{State}
use Rattle.asm_state.specs.Signature.{count_of, location_at}
use Rattle.asm_syntax.specs.SourceTree.{Spec}
use Rattle.asm_check.specs.Shapes.{shape_of}
use Rattle.asm_explore_table.specs.ChosenTexts.{chosen_lines}
use Rattle.asm_explore_table.specs.Rows.{Row, asks, changes, chooses, differs}
use Rattle.asm_explore_table.specs.Tables.{cells_after, numbered, shown_value}
use Rattle.asm_explore_table.specs.declared.extent.Extent.{Extent}

pub record HasRoom (count : ℕ) (extent : Extent) : Type 0 where
  pub changed : length extent.changed.items ≡ count
  pub widths : length extent.widths.items ≡ count

abbrev pub AreShort : (most : ℕ) → List (List ℕ) → Type 0
AreShort most texts = All (λ text. length text ≤ most) texts

abbrev pub width_in : Extent → (n : ℕ) → ℕ
width_in extent n = slice_index_or extent.widths.items n 0

module _ (s : Spec) where
  abbrev pub HasShortCells : (n most : ℕ) → Row → Type 0
  HasShortCells n most row = AreShort most (cells_after s n row.before row.after)

  abbrev pub HasShortChoices : (most : ℕ) → Row → Type 0
  HasShortChoices most row = AreShort most (chosen_lines s row.asked)

-- with one row more
pub record IsWidened (s : Spec) (old : Extent) (row : Row) (new : Extent) : Type 0 where
  pub changed : (n : ℕ) → n < count_of (shape_of s) → slice_index_or new.changed.items n false ≡ (slice_index_or old.changed.items n false || differs (location_at (shape_of s) n) row)
  pub chooses : new.chooses ≡ (old.chooses || asks row.asked)
  pub steps : new.steps ≡ old.steps + 1
  pub wider : (n : ℕ) → n < count_of (shape_of s) → width_in old n ≤ width_in new n
  pub cells : (n : ℕ) → n < count_of (shape_of s) → HasShortCells s n (width_in new n) row
  pub chosen_wider : old.chosen_width ≤ new.chosen_width
  pub chosen : HasShortChoices s new.chosen_width row

pub record IsExtentOf (s : Spec) (first : State) (extent : Extent) (rows : List Row) : Type 0 where
  pub changed : (n : ℕ) → n < count_of (shape_of s) → slice_index_or extent.changed.items n false ≡ changes (location_at (shape_of s) n) rows
  pub chooses : extent.chooses ≡ chooses rows
  pub steps : extent.steps ≡ length rows
  pub few : extent.steps < 2 ^ 32
  pub first_cells : (n : ℕ) → n < count_of (shape_of s) → length (shown_value s (first (numbered s n))) ≤ width_in extent n
  pub cells : (n : ℕ) → n < count_of (shape_of s) → All (HasShortCells s n (width_in extent n)) rows
  pub chosen : All (HasShortChoices s extent.chosen_width) rows
