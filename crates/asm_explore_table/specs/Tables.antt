-- Definition. The table of a run, as lines.
--     shown_value s v          a value, or a hyphen if it is undef
--     cell s A B l             what a row shows of a location: a dot if its value is the same in both
--                              states, and else its value in the second
--     with_cells               a line with these texts of locations, each at its column
--     heads                    the lines above a block of columns: the names of the functions, each
--                              above its first column, and the arguments of each location, if one
--                              has any
--     first_row, row_lines     the row of the first state, and the lines of that of a step
--     block_lines              the lines of a block of columns: its heads and all rows
--     is_column                a location is a column: one of those named, or else one that changes
--     is_known s name          some location has this name, or its function
--     IsFirstUnknown names name    it is the first of the names that isn't known
--     columns                  the numbers of all columns, in order
--     IsClearBlock             each text in a column of a block ends two blanks before the next one
--                              begins; the name of a function may stand above all of its columns
--     FitsInto most            no line of a block is longer, unless the block has one column
--     IsTable                  these lines are the table of a run: blocks of columns beside each
--                              other, with an empty line between each two. Within this, which columns
--                              stand beside each other is free, and where they begin
use Rattle.std.specs.Prelude.{All, true, false, ◌≡◌, ◌≤◌, ◌⊎◌, ⊤, ℕ, zero, suc, ◌+◌, ◌-◌, max, Bool, cond, ◌&&◌, ◌||◌, is_some, nat_eq, List, [], ◌∷◌, ◌++◌, map, filter, length, take, Option, Some, None, codes, decimal}
use Rattle.std.specs.List.{flat_map, join_by, list_any, range_with_len}
use Rattle.std.specs.Str.{bytes_eq}
use Rattle.asm_state.specs.declared.value.Value.{Value}
use Rattle.asm_state.specs.declared.value.Value.TheVariants.{Undef}
use Rattle.asm_state.specs.Location.{Location, Proper, Stray, State, function_of}
use Rattle.asm_state.specs.Operation.{is_same}
use Rattle.asm_state.specs.Signature.{count_of, location_at}
use Rattle.asm_state.specs.Updates.{is_proper}
use Rattle.asm_syntax.specs.SourceTree.{Spec}
use Rattle.asm_check.specs.Shapes.{shape_of}
use Rattle.asm_run.specs.Trace.{function_text, location_text, value_text}
use Rattle.asm_run.specs.Written.{names_in}
use Rattle.asm_explore_table.specs.ChosenTexts.{chosen_lines}
use Rattle.asm_explore_table.specs.Lines.{aligned, blanks, placed}
use Rattle.asm_explore_table.specs.Rows.{Row, changes, chooses}
use Rattle.asm_explore_table.specs.declared.block.Block.{Block}
use Rattle.asm_explore_table.specs.declared.block.Column.{Column}

-- ---- cells

abbrev pub shown_value : Spec → Value → List ℕ
shown_value s Undef = codes "-"
shown_value s v = value_text (names_in s).elements v

abbrev pub changed_value : Spec → (old new : Value) → List ℕ
changed_value s old new = cond (is_same old new) (codes ".") (shown_value s new)

module _ (s : Spec) where
  -- the location with this number
  abbrev pub numbered : ℕ → Location
  numbered n = location_at (shape_of s) n

  abbrev pub cell : State → State → ℕ → List ℕ
  cell A B n = changed_value s (A (numbered n)) (B (numbered n))

  -- of a step in which the run ends there is none
  abbrev pub cells_after : (n : ℕ) → State → Option State → List (List ℕ)
  cells_after n A None = []
  cells_after n A (Some B) = cell A B n ∷ []

-- the texts of the locations, each where its column begins
abbrev pub with_cells : (text : ℕ → List ℕ) → (line : List ℕ) → List Column → List ℕ
with_cells text line [] = line
with_cells text line (c ∷ columns) = with_cells text (placed line c.start (text c.location)) columns

-- what is chosen stands in a column, if the block has one
abbrev pub with_chosen : Option ℕ → (line text : List ℕ) → List ℕ
with_chosen None line text = line
with_chosen (Some start) line text = placed line start text

-- ---- heads

-- values with a comma between each two
abbrev pub joined_values : Spec → List Value → List ℕ
joined_values s vs = join_by (value_text (names_in s).elements) (codes ", ") vs

abbrev pub arguments_in : Spec → Location → List ℕ
arguments_in s (Proper f vs) = joined_values s vs
arguments_in s (Stray f) = []

-- a function is named above its first column
abbrev pub is_after : ℕ → Option ℕ → Bool
is_after f None = false
is_after f (Some g) = nat_eq f g

module _ (s : Spec) where
  abbrev pub function_head : (before : Option ℕ) → ℕ → List ℕ
  function_head before f = cond (is_after f before) [] (function_text (names_in s) f)

  abbrev pub with_functions : (before : Option ℕ) → (line : List ℕ) → List Column → List ℕ
  with_functions before line [] = line
  with_functions before line (c ∷ columns) =
      let f = function_of (numbered s c.location) in with_functions (Some f) (placed line c.start (function_head before f)) columns

  abbrev pub arguments_head : ℕ → List ℕ
  arguments_head n = arguments_in s (numbered s n)

-- a line, unless it has only blanks of this width
abbrev pub unless_blank : (width : ℕ) → List ℕ → List (List ℕ)
unless_blank width line = cond (nat_eq (length line) width) [] (line ∷ [])

module _ (s : Spec) (width : ℕ) (block : Block) where
  abbrev pub heads : List (List ℕ)
  heads =
      with_functions s None (with_chosen block.chosen (aligned width (codes "step")) (codes "chosen")) block.columns.items
      ∷ unless_blank width (with_cells (arguments_head s) (blanks width) block.columns.items)

  -- ---- rows

  -- a line with the number of a step, and a line of what is chosen in it
  abbrev pub begun : (number : ℕ) → (chosen : List ℕ) → List ℕ
  begun number chosen = with_chosen block.chosen (aligned width (decimal number)) chosen

  abbrev pub first_row : State → List ℕ
  first_row A = with_cells (λ n. shown_value s (A (numbered s n))) (begun 0 []) block.columns.items

  -- of a step in which the run ends there are no cells
  abbrev pub with_row : (line : List ℕ) → State → Option State → List ℕ
  with_row line A None = line
  with_row line A (Some B) = with_cells (cell s A B) line block.columns.items

  -- further lines of what is chosen
  abbrev pub further_lines : Option ℕ → List (List ℕ) → List (List ℕ)
  further_lines None more = []
  further_lines (Some start) more = map (λ text. placed (blanks width) start text) more

  abbrev pub lines_with : (number : ℕ) → (chosen : List (List ℕ)) → State → Option State → List (List ℕ)
  lines_with number [] A after = with_row (begun number []) A after ∷ []
  lines_with number (text ∷ more) A after = with_row (begun number text) A after ∷ further_lines block.chosen more

  abbrev pub row_lines : (number : ℕ) → Row → List (List ℕ)
  row_lines number row = lines_with number (chosen_lines s row.asked) row.before row.after

  -- the rows from this number on
  abbrev pub rows_from : (number : ℕ) → List Row → List (List ℕ)
  rows_from number [] = []
  rows_from number (row ∷ rows) = row_lines number row ++ rows_from (suc number) rows

  abbrev pub block_lines : (first : State) → List Row → List (List ℕ)
  block_lines first rows = heads ++ (first_row first ∷ rows_from 1 rows)

-- ---- columns

abbrev pub numbers_in : Block → List ℕ
numbers_in block = map (λ c. c.location) block.columns.items

-- one of the names is that of the location, or of its function
abbrev pub is_named : Spec → (names : List (List ℕ)) → Location → Bool
is_named s names l =
    list_any (λ name. bytes_eq name (function_text (names_in s) (function_of l))) names || list_any (λ name. bytes_eq name (location_text (names_in s) l)) names

abbrev pub is_column : Spec → (names : List (List ℕ)) → List Row → Location → Bool
is_column s [] rows l = is_proper l && changes l rows
is_column s (name ∷ names) rows l = is_proper l && is_named s (name ∷ names) l

-- some location has this name, or its function
abbrev pub is_known : Spec → (name : List ℕ) → Bool
is_known s name = list_any (λ n. let l = numbered s n in is_proper l && is_named s (name ∷ []) l) (range_with_len 0 (count_of (shape_of s)))

-- no location has this name, nor its function, and it is the first of the names
pub record IsFirstUnknown (s : Spec) (names : List (List ℕ)) (name : List ℕ) : Type 0 where
  pub before : List (List ℕ)
  pub after : List (List ℕ)
  pub parts : names ≡ before ++ name ∷ after
  pub known : All (λ one. is_known s one ≡ true) before
  pub unknown : is_known s name ≡ false

abbrev pub columns : Spec → (names : List (List ℕ)) → List Row → List ℕ
columns s names rows = filter (λ n. is_column s names rows (numbered s n)) (range_with_len 0 (count_of (shape_of s)))

abbrev pub most_columns : ℕ
most_columns = 200

-- without names not all may be shown
abbrev pub shown_columns : (names : List (List ℕ)) → List ℕ → List ℕ
shown_columns [] all = take most_columns all
shown_columns (name ∷ names) all = all

abbrev pub more_columns : ℕ → List (List ℕ)
more_columns zero = []
more_columns (suc n) = (codes "and " ++ (decimal (suc n) ++ codes " more locations change")) ∷ []

-- ---- where columns begin

-- a text that begins here ends two blanks before the column
abbrev pub IsBefore : (start : ℕ) → Column → (text : List ℕ) → Type 0
IsBefore start c text = start + (length text + 2) ≤ c.start

module _ (s : Spec) (first : State) (rows : List Row) where
  -- what stands in the column of a location, below the name of its function
  abbrev pub texts_in : (n : ℕ) → List (List ℕ)
  texts_in n = arguments_head s n ∷ (shown_value s (first (numbered s n)) ∷ flat_map (λ row. cells_after s n row.before row.after) rows)

  -- the texts in the first of two columns end before the second, and the name of its function does
  -- unless they have the same
  abbrev pub IsClear : (before : Option ℕ) → (c d : Column) → Type 0
  IsClear before c d =
      let f = function_of (numbered s c.location) in
      All (IsBefore c.start d) (texts_in c.location) × ((function_of (numbered s d.location) ≡ f) ⊎ IsBefore c.start d (function_head s before f))

  abbrev pub AreClear : (before : Option ℕ) → List Column → Type 0
  AreClear before [] = ⊤
  AreClear before (c ∷ columns) = All (IsClear before c) columns × AreClear (Some (function_of (numbered s c.location))) columns

  -- what stands in the column of what is chosen
  abbrev pub chosen_texts : List (List ℕ)
  chosen_texts = codes "chosen" ∷ flat_map (λ row. chosen_lines s row.asked) rows

  -- the steps end before the column of what is chosen, and this one before the others
  abbrev pub IsChosenClear : (width : ℕ) → Option ℕ → List Column → Type 0
  IsChosenClear width None columns = All (λ c. width + 2 ≤ c.start) columns
  IsChosenClear width (Some start) columns = (width + 2 ≤ start) × All (λ c. All (IsBefore start c) chosen_texts) columns

  abbrev pub IsClearBlock : (width : ℕ) → Block → Type 0
  IsClearBlock width block = IsChosenClear width block.chosen block.columns.items × AreClear None block.columns.items

  -- a line of the table stands behind two bytes
  abbrev pub FitsInto : (most width : ℕ) → Block → Type 0
  FitsInto most width block = (length block.columns.items ≤ 1) ⊎ All (λ line. 2 + length line ≤ most) (block_lines s width block first rows)

abbrev pub HasColumn : Block → Type 0
HasColumn block = 1 ≤ length block.columns.items

-- ---- the table

module _ (s : Spec) (width : ℕ) (first : State) (rows : List Row) where
  -- each behind an empty line
  abbrev pub behind_lines : List Block → List (List ℕ)
  behind_lines blocks = flat_map (λ block. [] ∷ block_lines s width block first rows) blocks

  abbrev pub blocks_lines : Block → List Block → List (List ℕ)
  blocks_lines head others = block_lines s width head first rows ++ behind_lines others

pub record IsTable (s : Spec) (names : List (List ℕ)) (most : ℕ) (first : State) (rows : List Row) (lines : List (List ℕ)) : Type 0 where
  pub width : ℕ
  pub head : Block
  pub others : List Block
  pub of_all : let all = columns s names rows in flat_map numbers_in (head ∷ others) ≡ shown_columns names all
  pub chosen : is_some head.chosen ≡ chooses rows
  pub unchosen : list_any (λ block. is_some block.chosen) others ≡ false
  -- the first block is without columns only if it is alone
  pub filled : All HasColumn others
  pub begins : (others ≡ []) ⊎ HasColumn head
  -- the numbers of the steps are as wide as the last of them, or as the word above
  pub steps : width ≡ max 4 (length (decimal (length rows)))
  pub clear : All (IsClearBlock s first rows width) (head ∷ others)
  pub fits : All (FitsInto s first rows most width) (head ∷ others)
  pub is :
      let all = columns s names rows in
      lines ≡ blocks_lines s width first rows head others ++ more_columns (length all - length (shown_columns names all))
