-- Definition. The page of a run: its table as HTML.
--     escaped text             the bytes of a text, with references for `&`, `<`, `>` and `"`
--     head words               all above the table: how the run ends, as the title, with the file's
--                              name, and as the heading; then why, and the call that makes the run
--     PageColumn               a location, and whether a head begins above it: it is the first column
--                              of its function, or the 1,001st below the last head
--     page_columns s ns        those of the locations with these numbers
--     table_head               its two rows: the heads, each with the name of the function of its
--                              columns, and the arguments of each location
--     first_row, step_row      the row of the first state, and that of a step: its number, what is
--                              chosen, and the value of each location, marked as new if the step
--                              changes it, or else as the same; of a step in which the run ends, an
--                              empty cell below each head. The last row is marked if the run ends by a fault
--     foot words               all below: the assignments, and the lines that name no choice
--     page_text                the page: each row of the table is one line
use Rattle.std.specs.Prelude.{ℕ, suc, ◌+◌, ◌-◌, ◌==◌, ◌||◌, nat_le, Bool, true, false, not, if◌then◌else◌, List, [], ◌∷◌, ◌++◌, length, Option, Some, None, codes, decimal}
use Rattle.std.specs.List.{flat_map, join_by}
use Rattle.std.specs.Str.{bytes_eq}
use Rattle.asm_state.specs.Location.{State, function_of}
use Rattle.asm_state.specs.Operation.{is_same}
use Rattle.asm_syntax.specs.SourceTree.{Spec}
use Rattle.asm_run.specs.Trace.{function_text}
use Rattle.asm_run.specs.Written.{names_in}
use Rattle.asm_explore_table.specs.ChosenTexts.{chosen_lines}
use Rattle.asm_explore_table.specs.PageStyle.{style}
use Rattle.asm_explore_table.specs.Rows.{Row, chooses}
use Rattle.asm_explore_table.specs.RunWords.{RunWords}
use Rattle.asm_explore_table.specs.Tables.{arguments_head, columns, is_after, more_columns, numbered, shown_columns, shown_value}
use Rattle.asm_explore_table.specs.declared.page_columns.PageColumn.{PageColumn}

-- ---- texts

abbrev pub escaped_byte : ℕ → List ℕ
escaped_byte b =
    if b == 38 then codes "&amp;" else (if b == 60 then codes "&lt;" else (if b == 62 then codes "&gt;" else (if b == 34 then codes "&quot;" else b ∷ [])))

abbrev pub escaped : List ℕ → List ℕ
escaped text = flat_map escaped_byte text

abbrev pub paragraph : List ℕ → List ℕ
paragraph text = codes "<p>" ++ (escaped text ++ codes "</p>\n")

abbrev pub code_line : List ℕ → List ℕ
code_line text = codes "<p><code>" ++ (escaped text ++ codes "</code></p>\n")

abbrev pub bad_if : Bool → List ℕ
bad_if false = []
bad_if true = codes " class=\"bad\""

-- ---- above the table

unfoldable pub opening : List ℕ
opening = codes "<!doctype html>\n<html lang=\"en\">\n<head>\n<meta charset=\"utf-8\">\n" ++ codes "<meta name=\"viewport\" content=\"width=device-width\">\n"

-- the file has a name, unless it is standard input
abbrev pub name_behind : List ℕ → List ℕ
name_behind name = if bytes_eq name (codes "-") then [] else codes " - " ++ escaped name

abbrev pub title : RunWords → List ℕ
title words = codes "<title>" ++ (escaped words.end ++ (name_behind words.name ++ codes "</title>\n"))

abbrev pub styled : List ℕ
styled = codes "<style>\n" ++ (style ++ codes "</style>\n</head>\n<body>\n")

abbrev pub heading : RunWords → List ℕ
heading words = codes "<h1" ++ (bad_if words.is_fault ++ (codes ">" ++ (escaped words.end ++ codes "</h1>\n")))

abbrev pub head : RunWords → List ℕ
head words = opening ++ (title words ++ (styled ++ (heading words ++ (flat_map code_line words.because ++ code_line words.command))))

-- ---- cells

-- the first column of a function begins a group
abbrev pub class : (is_first : Bool) → (mark : List ℕ) → List ℕ
class false [] = []
class true [] = codes " class=\"group\""
class false (b ∷ mark) = codes " class=\"" ++ ((b ∷ mark) ++ codes "\"")
class true (b ∷ mark) = codes " class=\"group " ++ ((b ∷ mark) ++ codes "\"")

abbrev pub head_cell : PageColumn → (text : List ℕ) → List ℕ
head_cell c text = codes "<th" ++ (class c.is_first [] ++ (codes ">" ++ (escaped text ++ codes "</th>")))

abbrev pub cell : PageColumn → (mark text : List ℕ) → List ℕ
cell c mark text = codes "<td" ++ (class c.is_first mark ++ (codes ">" ++ (escaped text ++ codes "</td>")))

-- how many columns follow before the next head
abbrev pub more_of_function : List PageColumn → ℕ
more_of_function [] = 0
more_of_function (c ∷ cs) = if c.is_first then 0 else more_of_function cs + 1

-- browsers let no head stand above more columns
abbrev pub most_spanned : ℕ
most_spanned = 1000

-- a head begins above a column of this function, the one before it being of that, so many columns
-- behind where the last head began
abbrev pub begins_head : (f : ℕ) → (before : Option ℕ) → (spanned : ℕ) → Bool
begins_head f before spanned = not (is_after f before) || nat_le most_spanned spanned

module _ (s : Spec) where
  abbrev pub marked_from : (before : Option ℕ) → (spanned : ℕ) → List ℕ → List PageColumn
  marked_from before spanned [] = []
  marked_from before spanned (n ∷ ns) =
      let f = function_of (numbered s n) in
      let is_first = begins_head f before spanned in
      record { location = n; is_first = is_first } ∷ marked_from (Some f) (if is_first then 1 else spanned + 1) ns

  abbrev pub page_columns : List ℕ → List PageColumn
  page_columns ns = marked_from None 0 ns

  -- ---- heads

  -- above the columns of a function
  abbrev pub function_head : PageColumn → (count : ℕ) → List ℕ
  function_head c count =
      codes "<th class=\"group\" colspan=\"" ++ (decimal count ++ (codes "\">" ++ (escaped (function_text (names_in s) (function_of (numbered s c.location))) ++ codes "</th>")))

  abbrev pub function_heads : List PageColumn → List ℕ
  function_heads [] = []
  function_heads (c ∷ cs) = (if c.is_first then function_head c (more_of_function cs + 1) else []) ++ function_heads cs

  abbrev pub arguments_cell : PageColumn → List ℕ
  arguments_cell c = head_cell c (arguments_head s c.location)

-- a head of both rows, or of the one that there is without columns
abbrev pub rows_spanned : List PageColumn → List ℕ
rows_spanned [] = []
rows_spanned (c ∷ cs) = codes " rowspan=\"2\""

abbrev pub step_head : List PageColumn → List ℕ
step_head cs = codes "<th class=\"step\"" ++ (rows_spanned cs ++ codes ">step</th>")

abbrev pub chosen_head : (chooses : Bool) → List PageColumn → List ℕ
chosen_head false cs = []
chosen_head true cs = codes "<th" ++ (rows_spanned cs ++ codes ">chosen</th>")

module _ (s : Spec) where
  abbrev pub arguments_row : List PageColumn → List ℕ
  arguments_row [] = []
  arguments_row (c ∷ cs) = codes "<tr>" ++ (flat_map (arguments_cell s) (c ∷ cs) ++ codes "</tr>\n")

  abbrev pub functions_row : (chooses : Bool) → List PageColumn → List ℕ
  functions_row chooses cs = codes "<tr>" ++ (step_head cs ++ (chosen_head chooses cs ++ (function_heads s cs ++ codes "</tr>\n")))

  abbrev pub table_head : (chooses : Bool) → List PageColumn → List ℕ
  table_head chooses cs = codes "<thead>\n" ++ (functions_row chooses cs ++ (arguments_row cs ++ codes "</thead>\n"))

-- ---- rows

-- a fault is marked where no row follows
abbrev pub ends_bad : (is_fault : Bool) → (more : List Row) → Bool
ends_bad is_fault [] = is_fault
ends_bad is_fault (row ∷ more) = false

abbrev pub number_cell : ℕ → List ℕ
number_cell number = codes "<td class=\"step\">" ++ (decimal number ++ codes "</td>")

abbrev pub chosen_cell : (chooses : Bool) → (lines : List (List ℕ)) → List ℕ
chosen_cell false lines = []
chosen_cell true lines = codes "<td>" ++ (join_by escaped (codes "<br>") lines ++ codes "</td>")

abbrev pub row_begun : (chooses is_bad : Bool) → (number : ℕ) → (chosen : List (List ℕ)) → List ℕ
row_begun chooses is_bad number chosen = codes "<tr" ++ (bad_if is_bad ++ (codes ">" ++ (number_cell number ++ chosen_cell chooses chosen)))

abbrev pub empty_cell : (columns : ℕ) → List ℕ
empty_cell columns = codes "<td class=\"group\" colspan=\"" ++ (decimal columns ++ codes "\"></td>")

-- one below each head
abbrev pub empty_cells : List PageColumn → List ℕ
empty_cells [] = []
empty_cells (c ∷ cs) = (if c.is_first then empty_cell (more_of_function cs + 1) else []) ++ empty_cells cs

abbrev pub mark_of : (is_same : Bool) → List ℕ
mark_of true = codes "same"
mark_of false = codes "new"

module _ (s : Spec) where
  abbrev pub first_cell : State → PageColumn → List ℕ
  first_cell A c = cell c [] (shown_value s (A (numbered s c.location)))

  abbrev pub step_cell : State → State → PageColumn → List ℕ
  step_cell A B c = let l = numbered s c.location in cell c (mark_of (is_same (A l) (B l))) (shown_value s (B l))

  abbrev pub step_cells : State → Option State → List PageColumn → List ℕ
  step_cells A None cs = empty_cells cs
  step_cells A (Some B) cs = flat_map (step_cell A B) cs

module _ (s : Spec) (chooses : Bool) (cs : List PageColumn) where
  abbrev pub row_with : (is_bad : Bool) → (number : ℕ) → (chosen : List (List ℕ)) → (cells : List ℕ) → List ℕ
  row_with is_bad number chosen cells = row_begun chooses is_bad number chosen ++ (cells ++ codes "</tr>\n")

  abbrev pub first_row : (is_bad : Bool) → State → List ℕ
  first_row is_bad A = row_with is_bad 0 [] (flat_map (first_cell s A) cs)

  abbrev pub step_row : (is_bad : Bool) → (number : ℕ) → Row → List ℕ
  step_row is_bad number row = row_with is_bad number (chosen_lines s row.asked) (step_cells s row.before row.after cs)

  module _ (is_fault : Bool) where
    -- the rows from this number on
    abbrev pub step_rows : (number : ℕ) → List Row → List ℕ
    step_rows number [] = []
    step_rows number (row ∷ rows) = step_row (ends_bad is_fault rows) number row ++ step_rows (suc number) rows

    abbrev pub table_rows : (first : State) → List Row → List ℕ
    table_rows first rows = first_row (ends_bad is_fault rows) first ++ step_rows 1 rows

    abbrev pub table : (first : State) → List Row → List ℕ
    table first rows =
        codes "<table>\n" ++ (table_head s chooses cs ++ (codes "<tbody>\n" ++ (table_rows first rows ++ codes "</tbody>\n</table>\n")))

-- ---- below the table

abbrev pub foot : RunWords → List ℕ
foot words = flat_map code_line words.assignments ++ (flat_map code_line words.unmet ++ codes "</body>\n</html>\n")

-- ---- the page

-- the table, and how many more locations change
abbrev pub shown_table : Spec → (names : List (List ℕ)) → (is_fault : Bool) → (first : State) → List Row → List ℕ
shown_table s names is_fault first rows =
    let all = columns s names rows in
    let shown = shown_columns names all in
    table s (chooses rows) (page_columns s shown) is_fault first rows ++ flat_map paragraph (more_columns (length all - length shown))

abbrev pub page_text : Spec → (names : List (List ℕ)) → RunWords → (first : State) → List Row → List ℕ
page_text s names words first rows = head words ++ (shown_table s names words.is_fault first rows ++ foot words)
