-- Free. Blocks whose columns are laid are clear.
--     texts_short        texts in a column are no longer than it is wide
--     block_clear        a block that is laid is clear
use Rattle.std.proofs.Common.{◌≡◌, ◌∙◌, ◌+◌, ◌<◌, ◌≤◌, ◌⊎◌, inl, inr, max, Bool, true, false, cond, ℕ, List, [], ◌∷◌, length, Option, Some, None, codes, nat_eq, refl, arith, le_trans}
use Rattle.std.specs.Prelude.{All}
use Rattle.std.specs.List.{flat_map}
use Rattle.std.proofs.lemmas.Bool.{eqb-true}
use Rattle.std.proofs.lemmas.List.Elements.{All-cons, All-head, All-nil, All-tail, All-weaker}
use Rattle.asm_state.specs.Location.{State, function_of}
use Rattle.asm_state.specs.Signature.{count_of}
use Rattle.asm_syntax.specs.SourceTree.{Spec}
use Rattle.asm_check.specs.Shapes.{shape_of}
use Rattle.asm_run.specs.Trace.{function_text}
use Rattle.asm_run.specs.Written.{names_in}
use Rattle.asm_explore_table.specs.ChosenTexts.{chosen_lines}
use Rattle.asm_explore_table.specs.Rows.{Row}
use Rattle.asm_explore_table.specs.Tables.{AreClear, IsBefore, IsChosenClear, IsClear, IsClearBlock, arguments_head, cells_after, chosen_texts, is_after, numbered, shown_value, texts_in}
use Rattle.asm_explore_table.specs.declared.block.Block.{Block}
use Rattle.asm_explore_table.specs.declared.block.Column.{Column}
use Rattle.asm_explore_table.specs.declared.extent.Extent.{Extent}
use Rattle.asm_explore_table.specs.declared.layout.Reached.{Reached}
use Rattle.asm_explore_table.specs.code.Extents.{AreShort, HasShortChoices, IsExtentOf, width_in}
use Rattle.asm_explore_table.specs.code.Layouts.{AreLaid, IsChosenStart, IsLaid, reached_first, start_behind, unplaced, up_to, width_of_steps, with_column}
use Rattle.asm_explore_table.proofs.AllLists.{all_flat, short_more}

module _ (s : Spec) (extent : Extent) where
  abbrev pub width_at : Column → ℕ
  width_at c = (unplaced s extent c.location).width

  abbrev function_at : Column → ℕ
  function_at c = function_of (numbered s c.location)

  abbrev name_at : Column → ℕ
  name_at c = length (function_text (names_in s) (function_at c))

  -- ---- where later columns begin

  abbrev IsLater : (end f name_end : ℕ) → Column → Type 0
  IsLater end f name_end d = (end + 2 ≤ d.start) × ((function_at d ≡ f) ⊎ (name_end + 2 ≤ d.start))

  -- a column of the same function, or not, behind what reaches to these ends
  abbrev start_by : (b : Bool) → (end name_end : ℕ) → ℕ
  start_by b end name_end = cond b end (max end name_end) + 2

  abbrev name_by : (b : Bool) → (end name_end : ℕ) → Column → ℕ
  name_by b end name_end c = cond b name_end (start_by b end name_end + name_at c)

  module _ (end f name_end : ℕ) (c : Column) where
    first_later : (b : Bool) → (b ≡ true → function_at c ≡ f) → c.start ≡ start_by b end name_end → IsLater end f name_end c
    first_later true same is = (omega (arith, is), inl (same refl))
    first_later false same is = (omega (arith, is), inr (omega (arith, is)))

    one_later : (b : Bool) → (b ≡ true → function_at c ≡ f) → (d : Column) → IsLater (start_by b end name_end + width_at c) (function_at c) (name_by b end name_end c) d
        → IsLater end f name_end d
    one_later true same d (far, inl is) = (omega (arith, far), inl (is ∙ same refl))
    one_later true same d (far, inr is) = (omega (arith, far), inr is)
    one_later false same d (far, by) = (omega (arith, far), inr (omega (arith, far)))

  later : (end f name_end : ℕ) (columns : List Column) → AreLaid s extent (record { end = end; function = Some f; name_end = name_end }) columns → All (IsLater end f name_end) columns
  later end f name_end [] laid = All-nil (IsLater end f name_end)
  later end f name_end (c ∷ columns) laid =
      let b = nat_eq (function_at c) f in
      let same = eqb-true (function_at c) f in
      let own_end = start_by b end name_end + width_at c in
      let own_name = name_by b end name_end c in
      All-cons (IsLater end f name_end) c columns (first_later end f name_end c b same laid.0)
      (All-weaker (IsLater own_end (function_at c) own_name) (IsLater end f name_end) (one_later end f name_end c b same) columns (later own_end (function_at c) own_name columns laid.1))

  -- behind what stands before all columns
  pub all_behind : (end : ℕ) (columns : List Column) → AreLaid s extent (up_to end) columns → All (λ d. end + 2 ≤ d.start) columns
  all_behind end [] laid = All-nil (λ d. end + 2 ≤ d.start)
  all_behind end (c ∷ columns) laid =
      let start = max end 0 + 2 in
      let here : end + 2 ≤ c.start = omega (arith, laid.0) in
      All-cons (λ d. end + 2 ≤ d.start) c columns here
      (All-weaker (IsLater (start + width_at c) (function_at c) (start + name_at c)) (λ d. end + 2 ≤ d.start) (λ d far. omega (arith, far.0)) columns
      (later (start + width_at c) (function_at c) (start + name_at c) columns laid.1))

  -- ---- texts in columns

  module _ (first : State) (rows : List Row) where
    abbrev pub HasShortTexts : Column → Type 0
    HasShortTexts c = AreShort (width_at c) (texts_in s first rows c.location)

    module _ (c : Column) (own_end f name_end start : ℕ) (is : c.start ≡ start) (wide : own_end ≡ start + width_at c) where
      each_before : (d : Column) → own_end + 2 ≤ d.start → (t : List ℕ) → length t ≤ width_at c → IsBefore c.start d t
      each_before d far t fits = omega (arith, is, wide, far, fits)

      named_before : (b : Bool) (d : Column) → own_end + 2 ≤ d.start → (function_at d ≡ function_at c) ⊎ (cond b name_end (start + name_at c) + 2 ≤ d.start)
          → (function_at d ≡ function_at c) ⊎ IsBefore c.start d (cond b [] (function_text (names_in s) (function_at c)))
      named_before b d far (inl same) = inl same
      named_before true d far (inr past) = inr (omega (arith, is, wide, far))
      named_before false d far (inr past) = inr (omega (arith, is, past))

    pub are_clear : (reached : Reached) (columns : List Column) → AreLaid s extent reached columns → All HasShortTexts columns → AreClear s first rows reached.function columns
    are_clear reached [] laid short = tt
    are_clear reached (c ∷ columns) laid short =
        let next = with_column reached (unplaced s extent c.location) in
        let f = function_at c in
        let start = start_behind reached f in
        let texts = All-head HasShortTexts c columns short in (
          All-weaker (IsLater next.end f next.name_end) (IsClear s first rows reached.function c)
              (λ d behind. (
                All-weaker (λ (t : List ℕ). length t ≤ width_at c) (IsBefore c.start d) (each_before c next.end f reached.name_end start laid.0 refl d behind.0) (texts_in s first rows c.location) texts,
                named_before c next.end f reached.name_end start laid.0 refl (is_after f reached.function) d behind.0 behind.1,
              )) columns (later next.end f next.name_end columns laid.1),
          are_clear next columns laid.1 (All-tail HasShortTexts c columns short),
        )

    -- ---- what is chosen

    pub short_choices : All (HasShortChoices s extent.chosen_width) rows → AreShort (max 6 extent.chosen_width) (chosen_texts s first rows)
    short_choices all =
        let most = max 6 extent.chosen_width in
        let word : length (codes "chosen") ≤ most = omega arith in
        let more : extent.chosen_width ≤ most = omega arith in
        All-cons (λ (t : List ℕ). length t ≤ most) (codes "chosen") (flat_map (λ (row : Row). chosen_lines s row.asked) rows) word
        (short_more extent.chosen_width most more (flat_map (λ (row : Row). chosen_lines s row.asked) rows)
        (all_flat (λ (t : List ℕ). length t ≤ extent.chosen_width) (λ (row : Row). chosen_lines s row.asked) rows all))

    chosen_clear : (chosen : Option ℕ) (columns : List Column) → IsChosenStart extent chosen → All (HasShortChoices s extent.chosen_width) rows
        → AreLaid s extent (reached_first extent chosen) columns → IsChosenClear s first rows (width_of_steps extent) chosen columns
    chosen_clear None columns begins all laid = all_behind (width_of_steps extent) columns laid
    chosen_clear (Some start) columns begins all laid =
        let most = max 6 extent.chosen_width in (
          omega (arith, begins),
          All-weaker (λ d. start + most + 2 ≤ d.start) (λ d. All (IsBefore start d) (chosen_texts s first rows))
              (λ d far. All-weaker (λ (t : List ℕ). length t ≤ most) (IsBefore start d) (λ t fits. omega (arith, far, fits)) (chosen_texts s first rows) (short_choices all))
              columns (all_behind (start + most) columns laid),
        )

    pub block_clear : (most : ℕ) (block : Block) → IsLaid s extent most block → All HasShortTexts block.columns.items → All (HasShortChoices s extent.chosen_width) rows
        → IsClearBlock s first rows (width_of_steps extent) block
    block_clear most block is short all =
        (chosen_clear block.chosen block.columns.items is.start all is.laid, are_clear_first block.chosen is.laid)
      where
        are_clear_first : (chosen : Option ℕ) → AreLaid s extent (reached_first extent chosen) block.columns.items → AreClear s first rows None block.columns.items
        are_clear_first None laid = are_clear (up_to (width_of_steps extent)) block.columns.items laid short
        are_clear_first (Some start) laid = are_clear (up_to (start + max 6 extent.chosen_width)) block.columns.items laid short

    -- ---- texts of a run

    module _ (found : IsExtentOf s first extent rows) where
      pub texts_short : (c : Column) → c.location < count_of (shape_of s) → HasShortTexts c
      texts_short c low =
          let n = c.location in
          let wide = width_in extent n in
          let most = width_at c in
          let more : wide ≤ most = omega arith in
          let head : length (arguments_head s n) ≤ most = omega arith in
          let shown : length (shown_value s (first (numbered s n))) ≤ most = le_trans (found.first_cells n low) more in
          let cells = flat_map (λ (row : Row). cells_after s n row.before row.after) rows in
          All-cons (λ (t : List ℕ). length t ≤ most) (arguments_head s n) (shown_value s (first (numbered s n)) ∷ cells) head
          (All-cons (λ (t : List ℕ). length t ≤ most) (shown_value s (first (numbered s n))) cells shown
          (short_more wide most more cells (all_flat (λ (t : List ℕ). length t ≤ wide) (λ (row : Row). cells_after s n row.before row.after) rows (found.cells n low))))
