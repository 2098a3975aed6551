-- Free. How long the lines of a block are.
--     block_short      none reaches further than its columns and the names above them
use Rattle.std.proofs.Common.{◌≡◌, ◌+◌, ◌-◌, ◌<◌, ◌≤◌, ◌^◌, max, Bool, true, false, cond, ℕ, zero, suc, List, [], ◌∷◌, ◌++◌, length, Option, Some, None, codes, decimal, nat_eq, ap, refl, arith, le_trans, length-append}
use Rattle.std.specs.Prelude.{All}
use Rattle.std.specs.List.{flat_map}
use Rattle.std.proofs.lemmas.List.Elements.{All-append, All-cons, All-head, All-map, All-nil, All-tail, All-weaker}
use Rattle.asm_state.specs.Location.{State, function_of}
use Rattle.asm_syntax.specs.SourceTree.{Spec}
use Rattle.asm_run.specs.Trace.{function_text}
use Rattle.asm_run.specs.Written.{names_in}
use Rattle.asm_explore_table.specs.ChosenTexts.{chosen_lines}
use Rattle.asm_explore_table.specs.Lines.{aligned, blanks, placed}
use Rattle.asm_explore_table.specs.Rows.{Row}
use Rattle.asm_explore_table.specs.Tables.{arguments_head, begun, block_lines, cell, cells_after, first_row, function_head, further_lines, heads, is_after, lines_with, numbered, row_lines, rows_from, shown_value, unless_blank, with_cells, with_chosen, with_functions, with_row}
use Rattle.asm_explore_table.specs.declared.block.Block.{Block}
use Rattle.asm_explore_table.specs.declared.block.Column.{Column}
use Rattle.asm_explore_table.specs.declared.extent.Extent.{Extent}
use Rattle.asm_explore_table.specs.declared.layout.Reached.{Reached}
use Rattle.asm_explore_table.specs.code.Extents.{AreShort, HasShortCells, HasShortChoices}
use Rattle.asm_explore_table.specs.code.Layouts.{AreLaid, IsChosenStart, end_of, reached_by, reached_first, reached_with, unplaced, up_to, width_of_steps, with_column}
use Rattle.asm_explore_table.proofs.ClearTables.{HasShortTexts, width_at}
use Rattle.asm_explore_table.proofs.DecimalLengths.{digits_grow, one_digit}

-- ---- pieces of lines

pub blanks_length : (n : ℕ) → length (blanks n) ≡ n
blanks_length zero = refl
blanks_length (suc n) = ap suc (blanks_length n)

pub placed_short : (line : List ℕ) (start : ℕ) (text : List ℕ) → length line + 2 ≤ start → length (placed line start text) ≤ start + length text
placed_short line start [] low = omega (arith, low)
placed_short line start (b ∷ text) low =
    let whole = length-append line (blanks (start - length line) ++ b ∷ text) in
    let part = length-append (blanks (start - length line)) (b ∷ text) in
    let many = blanks_length (start - length line) in
    omega (arith, low, whole, part, many)

aligned_length : (width : ℕ) (text : List ℕ) → length text ≤ width → length (aligned width text) ≡ width
aligned_length width text fits =
    let whole = length-append (blanks (width - length text)) text in
    let many = blanks_length (width - length text) in
    omega (arith, fits, whole, many)

module _ (s : Spec) (extent : Extent) where
  -- ---- how far columns reach

  abbrev next : Reached → Column → Reached
  next reached c = with_column reached (unplaced s extent c.location)

  end_grows : (b : Bool) (end name_end width name : ℕ) → max end name_end ≤ max (cond b end (max end name_end) + 2 + width) (cond b name_end (cond b end (max end name_end) + 2 + name))
  end_grows true end name_end width name = omega arith
  end_grows false end name_end width name = omega arith

  grows : (reached : Reached) (c : Column) → end_of reached ≤ end_of (next reached c)
  grows reached c =
      let f = function_of (numbered s c.location) in
      end_grows (is_after f reached.function) reached.end reached.name_end (width_at s extent c) (length (function_text (names_in s) f))

  pub reaches : (reached : Reached) (columns : List Column) → end_of reached ≤ end_of (reached_with s extent reached columns)
  reaches reached [] = omega arith
  reaches reached (c ∷ columns) = le_trans (grows reached c) (reaches (next reached c) columns)

  start_above : (b : Bool) (end name_end : ℕ) → end + 2 ≤ cond b end (max end name_end) + 2
  start_above true end name_end = omega arith
  start_above false end name_end = omega arith

  -- ---- lines with texts in columns

  module _ (text : ℕ → List ℕ) where
    abbrev Fits : Column → Type 0
    Fits c = length (text c.location) ≤ width_at s extent c

    pub cells_short : (reached : Reached) (line : List ℕ) (columns : List Column) → length line ≤ reached.end → AreLaid s extent reached columns → All Fits columns
        → length (with_cells text line columns) ≤ end_of (reached_with s extent reached columns)
    cells_short reached line [] low laid fits = omega (arith, low)
    cells_short reached line (c ∷ columns) low laid fits =
        let f = function_of (numbered s c.location) in
        let above = start_above (is_after f reached.function) reached.end reached.name_end in
        let behind : length line + 2 ≤ c.start = omega (arith, low, above, laid.0) in
        let one = placed_short line c.start (text c.location) behind in
        let short : length (placed line c.start (text c.location)) ≤ (next reached c).end = omega (arith, one, laid.0, All-head Fits c columns fits) in
        cells_short (next reached c) (placed line c.start (text c.location)) columns short laid.1 (All-tail Fits c columns fits)

  name_short : (b : Bool) (line name : List ℕ) (end name_end width start : ℕ) → length line ≤ max end name_end → start ≡ cond b end (max end name_end) + 2
      → length (placed line start (cond b [] name)) ≤ max (cond b end (max end name_end) + 2 + width) (cond b name_end (cond b end (max end name_end) + 2 + length name))
  name_short true line name end name_end width start low is = omega (arith, low)
  name_short false line name end name_end width start low is =
      let behind : length line + 2 ≤ start = omega (arith, low, is) in
      let one = placed_short line start name behind in
      omega (arith, one, is)

  pub functions_short : (reached : Reached) (line : List ℕ) (columns : List Column) → length line ≤ end_of reached → AreLaid s extent reached columns
      → length (with_functions s reached.function line columns) ≤ end_of (reached_with s extent reached columns)
  functions_short reached line [] low laid = low
  functions_short reached line (c ∷ columns) low laid =
      let f = function_of (numbered s c.location) in
      let short = name_short (is_after f reached.function) line (function_text (names_in s) f) reached.end reached.name_end (width_at s extent c) c.start low laid.0 in
      functions_short (next reached c) (placed line c.start (function_head s reached.function f)) columns short laid.1

  -- ---- the lines of a block

  abbrev width : ℕ
  width = width_of_steps extent

  chosen_short : (chosen : Option ℕ) (line text : List ℕ) → IsChosenStart extent chosen → length line ≡ width → length text ≤ max 6 extent.chosen_width
      → length (with_chosen chosen line text) ≤ (reached_first extent chosen).end
  chosen_short None line text begins is fits = omega (arith, is)
  chosen_short (Some start) line text begins is fits =
      let behind : length line + 2 ≤ start = omega (arith, begins, is) in
      let one = placed_short line start text behind in
      omega (arith, one, fits)

  blank_short : (chosen : Option ℕ) → IsChosenStart extent chosen → length (blanks width) ≤ (reached_first extent chosen).end
  blank_short None begins = omega (arith, blanks_length width)
  blank_short (Some start) begins = omega (arith, blanks_length width, begins)

  further_short : (block : Block) (most : ℕ) (chosen : Option ℕ) → IsChosenStart extent chosen → (reached_first extent chosen).end ≤ most → (texts : List (List ℕ)) → AreShort extent.chosen_width texts
      → AreShort most (further_lines s width block chosen texts)
  further_short block most None begins low texts short = All-nil (λ (t : List ℕ). length t ≤ most)
  further_short block most (Some start) begins low texts short =
      let behind : length (blanks width) + 2 ≤ start = omega (arith, blanks_length width, begins) in
      All-map (λ (t : List ℕ). length t ≤ most) (λ text. placed (blanks width) start text) texts
      (All-weaker (λ (t : List ℕ). length t ≤ extent.chosen_width) (λ t. length (placed (blanks width) start t) ≤ most)
      (λ t fits. let one = placed_short (blanks width) start t behind in omega (arith, one, fits, low)) texts short)

  no_function : (chosen : Option ℕ) → (reached_first extent chosen).function ≡ None
  no_function None = refl
  no_function (Some start) = refl

  module _ (first : State) (rows : List Row) (block : Block) (begins : IsChosenStart extent block.chosen) (laid : AreLaid s extent (reached_first extent block.chosen) block.columns.items)
      (short : All (HasShortTexts s extent first rows) block.columns.items) where
    abbrev most : ℕ
    most = end_of (reached_by s extent block)

    abbrev begin : Reached
    begin = reached_first extent block.chosen

    begin_low : begin.end ≤ most
    begin_low = le_trans (omega arith) (reaches begin block.columns.items)

    abbrev cells_in : ℕ → List (List ℕ)
    cells_in n = flat_map (λ (row : Row). cells_after s n row.before row.after) rows

    arguments_fit : All (Fits (arguments_head s)) block.columns.items
    arguments_fit = All-weaker (HasShortTexts s extent first rows) (Fits (arguments_head s))
        (λ c texts. All-head (λ (t : List ℕ). length t ≤ width_at s extent c) (arguments_head s c.location) (shown_value s (first (numbered s c.location)) ∷ cells_in c.location) texts) block.columns.items short

    values_fit : All (Fits (λ n. shown_value s (first (numbered s n)))) block.columns.items
    values_fit = All-weaker (HasShortTexts s extent first rows) (Fits (λ n. shown_value s (first (numbered s n))))
        (λ c texts. All-head (λ (t : List ℕ). length t ≤ width_at s extent c) (shown_value s (first (numbered s c.location))) (cells_in c.location)
        (All-tail (λ (t : List ℕ). length t ≤ width_at s extent c) (arguments_head s c.location) (shown_value s (first (numbered s c.location)) ∷ cells_in c.location) texts)) block.columns.items short

    unless_short : (line : List ℕ) → length line ≤ most → AreShort most (unless_blank width line)
    unless_short line low = at (nat_eq (length line) width)
      where
        at : (b : Bool) → AreShort most (cond b [] (line ∷ []))
        at true = All-nil (λ (t : List ℕ). length t ≤ most)
        at false = All-cons (λ (t : List ℕ). length t ≤ most) line [] low (All-nil (λ (t : List ℕ). length t ≤ most))

    begun_short : (number : ℕ) (text : List ℕ) → length (decimal number) ≤ width → length text ≤ max 6 extent.chosen_width → length (begun s width block number text) ≤ begin.end
    begun_short number text digits fits = chosen_short block.chosen (aligned width (decimal number)) text begins (aligned_length width (decimal number) digits) fits

    word_short : length (with_chosen block.chosen (aligned width (codes "step")) (codes "chosen")) ≤ begin.end
    word_short =
        let four : length (codes "step") ≤ width = omega arith in
        let six : length (codes "chosen") ≤ max 6 extent.chosen_width = omega arith in
        chosen_short block.chosen (aligned width (codes "step")) (codes "chosen") begins (aligned_length width (codes "step") four) six

    heads_short : AreShort most (heads s width block)
    heads_short =
        let line = with_chosen block.chosen (aligned width (codes "step")) (codes "chosen") in
        let low : length line ≤ end_of begin = le_trans word_short (omega arith) in
        All-cons (λ (t : List ℕ). length t ≤ most) (with_functions s None line block.columns.items) (unless_blank width (with_cells (arguments_head s) (blanks width) block.columns.items))
        (names_short block.chosen line low laid)
        (unless_short (with_cells (arguments_head s) (blanks width) block.columns.items)
        (cells_short (arguments_head s) begin (blanks width) block.columns.items (blank_short block.chosen begins) laid arguments_fit))
      where
        names_short : (chosen : Option ℕ) (line : List ℕ) → length line ≤ end_of (reached_first extent chosen) → AreLaid s extent (reached_first extent chosen) block.columns.items
            → length (with_functions s None line block.columns.items) ≤ end_of (reached_with s extent (reached_first extent chosen) block.columns.items)
        names_short None line low laid = functions_short (up_to width) line block.columns.items low laid
        names_short (Some start) line low laid = functions_short (up_to (start + max 6 extent.chosen_width)) line block.columns.items low laid

    first_short : length (first_row s width block first) ≤ most
    first_short =
        let same = one_digit 0 (omega arith) in
        let one : length (decimal 0) ≤ width = omega (arith, same) in
        cells_short (λ n. shown_value s (first (numbered s n))) begin (begun s width block 0 []) block.columns.items (begun_short 0 [] one (omega arith)) laid values_fit

    abbrev HaveShortCells : Row → Type 0
    HaveShortCells row = All (λ c. HasShortCells s c.location (width_at s extent c) row) block.columns.items

    row_short : (line : List ℕ) (A : State) (after : Option State) → All (λ (c : Column). AreShort (width_at s extent c) (cells_after s c.location A after)) block.columns.items → length line ≤ begin.end
        → length (with_row s width block line A after) ≤ most
    row_short line A None cells low = le_trans low begin_low
    row_short line A (Some B) cells low = cells_short (cell s A B) begin line block.columns.items low laid
        (All-weaker (λ (c : Column). AreShort (width_at s extent c) (cell s A B c.location ∷ [])) (Fits (cell s A B))
        (λ c texts. All-head (λ (t : List ℕ). length t ≤ width_at s extent c) (cell s A B c.location) [] texts) block.columns.items cells)

    lines_short : (number : ℕ) (texts : List (List ℕ)) (A : State) (after : Option State) → length (decimal number) ≤ width → AreShort extent.chosen_width texts
        → All (λ (c : Column). AreShort (width_at s extent c) (cells_after s c.location A after)) block.columns.items → AreShort most (lines_with s width block number texts A after)
    lines_short number [] A after digits texts_fit cells =
        All-cons (λ (t : List ℕ). length t ≤ most) (with_row s width block (begun s width block number []) A after) []
        (row_short (begun s width block number []) A after cells (begun_short number [] digits (omega arith))) (All-nil (λ (t : List ℕ). length t ≤ most))
    lines_short number (text ∷ more) A after digits texts_fit cells =
        let one = All-head (λ (t : List ℕ). length t ≤ extent.chosen_width) text more texts_fit in
        let fits : length text ≤ max 6 extent.chosen_width = omega (arith, one) in
        All-cons (λ (t : List ℕ). length t ≤ most) (with_row s width block (begun s width block number text) A after) (further_lines s width block block.chosen more)
        (row_short (begun s width block number text) A after cells (begun_short number text digits fits))
        (further_short block most block.chosen begins begin_low more (All-tail (λ (t : List ℕ). length t ≤ extent.chosen_width) text more texts_fit))

    rows_short : (number : ℕ) (some : List Row) → number + length some ≤ extent.steps + 1 → extent.steps < 2 ^ 64 → All (HasShortChoices s extent.chosen_width) some → All HaveShortCells some
        → AreShort most (rows_from s width block number some)
    rows_short number [] low few choices cells = All-nil (λ (t : List ℕ). length t ≤ most)
    rows_short number (row ∷ some) low few choices cells =
        let last : number ≤ extent.steps = omega (arith, low) in
        let grow = digits_grow number extent.steps last few in
        let digits : length (decimal number) ≤ width = omega (arith, grow) in
        let next_low : suc number + length some ≤ extent.steps + 1 = omega (arith, low) in
        All-append (λ (t : List ℕ). length t ≤ most) (row_lines s width block number row) (rows_from s width block (suc number) some)
        (lines_short number (chosen_lines s row.asked) row.before row.after digits (All-head (HasShortChoices s extent.chosen_width) row some choices) (All-head HaveShortCells row some cells))
        (rows_short (suc number) some next_low few (All-tail (HasShortChoices s extent.chosen_width) row some choices) (All-tail HaveShortCells row some cells))

    pub block_short : extent.steps ≡ length rows → extent.steps < 2 ^ 64 → All (HasShortChoices s extent.chosen_width) rows → All HaveShortCells rows → AreShort most (block_lines s width block first rows)
    block_short many few choices cells =
        let low : 1 + length rows ≤ extent.steps + 1 = omega (arith, many) in
        All-append (λ (t : List ℕ). length t ≤ most) (heads s width block) (first_row s width block first ∷ rows_from s width block 1 rows) heads_short
        (All-cons (λ (t : List ℕ). length t ≤ most) (first_row s width block first) (rows_from s width block 1 rows) first_short (rows_short 1 rows low few choices cells))
