-- Bridge to the code. Where the code lets the columns of a block begin.
--     end_before reached f           where that ends which a column of the function stands behind
--     start_behind reached f         where such a column begins
--     with_column reached c          how far a block reaches with one column more
--     unplaced s extent n            the column of a location, before it has a place
--     reached_with, AreLaid          how far a block reaches with some columns, each of which begins
--                                    where it has to
--     IsFullWith                     a block has a column, and would be too wide with one more
--     IsLaid s extent most block     its columns are laid, and it is no wider, but with one column
--     AreFilled blocks               each has a column, and the first one unless it is alone
use Rattle.std.specs.Prelude.{◌≡◌, ◌≤◌, ◌⊎◌, ⊤, All, ℕ, Bool, true, false, cond, ◌+◌, max, List, [], ◌∷◌, length, Option, Some, None, decimal, IfSome}
use Rattle.asm_state.specs.Location.{function_of}
use Rattle.asm_syntax.specs.SourceTree.{Spec}
use Rattle.asm_run.specs.Trace.{function_text}
use Rattle.asm_run.specs.Written.{names_in}
use Rattle.asm_explore_table.specs.Tables.{HasColumn, arguments_head, is_after, numbered}
use Rattle.asm_explore_table.specs.declared.block.Block.{Block}
use Rattle.asm_explore_table.specs.declared.block.Column.{Column}
use Rattle.asm_explore_table.specs.declared.extent.Extent.{Extent}
use Rattle.asm_explore_table.specs.code.Extents.{width_in}
use Rattle.asm_explore_table.specs.declared.layout.Begun.{Begun}
use Rattle.asm_explore_table.specs.declared.layout.Reached.{Reached}
use Rattle.asm_explore_table.specs.declared.layout.Unplaced.{Unplaced}

abbrev pub width_of_steps : Extent → ℕ
width_of_steps extent = max 4 (length (decimal extent.steps))

-- ---- one column

abbrev pub up_to : (end : ℕ) → Reached
up_to end = record { end = end; function = None; name_end = 0 }

abbrev pub end_of : Reached → ℕ
end_of reached = max reached.end reached.name_end

abbrev pub end_before : Reached → (function : ℕ) → ℕ
end_before reached f = cond (is_after f reached.function) reached.end (end_of reached)

abbrev pub start_behind : Reached → (function : ℕ) → ℕ
start_behind reached f = end_before reached f + 2

abbrev pub name_end_behind : Reached → (start : ℕ) → Unplaced → ℕ
name_end_behind reached start c = cond (is_after c.function reached.function) reached.name_end (start + c.name)

abbrev pub with_column : Reached → Unplaced → Reached
with_column reached c =
    let start = start_behind reached c.function in
    record { end = start + c.width; function = Some c.function; name_end = name_end_behind reached start c }

abbrev pub placed_column : Reached → Unplaced → Column
placed_column reached c = record { location = c.location; start = start_behind reached c.function }

pub record IsFullWith (begun : Begun) (c : Unplaced) (most : ℕ) (full : Bool) : Type 0 where
  pub room : full ≡ false → (begun.block.columns.items ≡ []) ⊎ (2 + end_of (with_column begun.reached c) ≤ most)
  pub column : full ≡ true → HasColumn begun.block

-- ---- the columns of a block

module _ (extent : Extent) where
  abbrev pub reached_first : (chosen : Option ℕ) → Reached
  reached_first None = up_to (width_of_steps extent)
  reached_first (Some start) = up_to (start + max 6 extent.chosen_width)

  abbrev pub IsChosenStart : (chosen : Option ℕ) → Type 0
  IsChosenStart chosen = IfSome chosen (λ start. start ≡ width_of_steps extent + 2)

module _ (s : Spec) (extent : Extent) where
  abbrev pub unplaced : ℕ → Unplaced
  unplaced n =
      let f = function_of (numbered s n) in
      record { location = n; function = f; name = length (function_text (names_in s) f); width = max (width_in extent n) (length (arguments_head s n)) }

  abbrev pub reached_with : Reached → List Column → Reached
  reached_with reached [] = reached
  reached_with reached (c ∷ columns) = reached_with (with_column reached (unplaced c.location)) columns

  abbrev pub AreLaid : Reached → List Column → Type 0
  AreLaid reached [] = ⊤
  AreLaid reached (c ∷ columns) = (c.start ≡ start_behind reached (unplaced c.location).function) × AreLaid (with_column reached (unplaced c.location)) columns

  abbrev pub reached_by : Block → Reached
  reached_by block = reached_with (reached_first extent block.chosen) block.columns.items

  pub record IsLaid (most : ℕ) (block : Block) : Type 0 where
    pub start : IsChosenStart extent block.chosen
    pub laid : AreLaid (reached_first extent block.chosen) block.columns.items
    pub fits : (length block.columns.items ≤ 1) ⊎ (2 + end_of (reached_by block) ≤ most)

abbrev pub AreFilled : List Block → Type 0
AreFilled [] = ⊤
AreFilled (head ∷ others) = All HasColumn others × ((others ≡ []) ⊎ HasColumn head)
