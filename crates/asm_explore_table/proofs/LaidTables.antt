-- Free. What is found of a run says of blocks that are laid.
--     laid_clear       each of them is clear
--     laid_fits        no line of one is longer than was asked, but of one with a column
use Rattle.std.proofs.Common.{◌+◌, ◌<◌, ◌≤◌, ◌⊎◌, ◌^◌, inl, inr, ℕ, List, length, arith}
use Rattle.std.specs.Prelude.{All}
use Rattle.std.proofs.lemmas.List.Elements.{All-weaker}
use Rattle.asm_state.specs.Location.{State}
use Rattle.asm_state.specs.Signature.{count_of}
use Rattle.asm_syntax.specs.SourceTree.{Spec}
use Rattle.asm_check.specs.Shapes.{shape_of}
use Rattle.asm_explore_table.specs.Rows.{Row}
use Rattle.asm_explore_table.specs.Tables.{FitsInto, IsClearBlock, block_lines, cells_after}
use Rattle.asm_explore_table.specs.declared.block.Block.{Block}
use Rattle.asm_explore_table.specs.declared.block.Column.{Column}
use Rattle.asm_explore_table.specs.declared.extent.Extent.{Extent}
use Rattle.asm_explore_table.specs.code.Extents.{HasShortCells, IsExtentOf, width_in}
use Rattle.asm_explore_table.specs.code.Layouts.{IsLaid, end_of, reached_by, width_of_steps}
use Rattle.asm_explore_table.proofs.AllLists.{all_swapped, short_more}
use Rattle.asm_explore_table.proofs.ClearTables.{HasShortTexts, block_clear, texts_short, width_at}
use Rattle.asm_explore_table.proofs.ShortLines.{block_short}

module _ (s : Spec) (extent : Extent) (first : State) (rows : List Row) (found : IsExtentOf s first extent rows) (most : ℕ) (block : Block) (is : IsLaid s extent most block)
    (within : All (λ (c : Column). c.location < count_of (shape_of s)) block.columns.items) where
  texts : All (HasShortTexts s extent first rows) block.columns.items
  texts = All-weaker (λ (c : Column). c.location < count_of (shape_of s)) (HasShortTexts s extent first rows) (texts_short s extent first rows found) block.columns.items within

  pub laid_clear : IsClearBlock s first rows (width_of_steps extent) block
  laid_clear = block_clear s extent first rows most block is texts found.chosen

  cells_at : (c : Column) → c.location < count_of (shape_of s) → All (HasShortCells s c.location (width_at s extent c)) rows
  cells_at c low =
      let more : width_in extent c.location ≤ width_at s extent c = omega arith in
      All-weaker (HasShortCells s c.location (width_in extent c.location)) (HasShortCells s c.location (width_at s extent c))
      (λ (row : Row). short_more (width_in extent c.location) (width_at s extent c) more (cells_after s c.location row.before row.after)) rows (found.cells c.location low)

  cells : All (λ (row : Row). All (λ (c : Column). HasShortCells s c.location (width_at s extent c) row) block.columns.items) rows
  cells = all_swapped (λ (c : Column). HasShortCells s c.location (width_at s extent c)) block.columns.items rows
      (All-weaker (λ (c : Column). c.location < count_of (shape_of s)) (λ c. All (HasShortCells s c.location (width_at s extent c)) rows) cells_at block.columns.items within)

  pub laid_fits : FitsInto s first rows most (width_of_steps extent) block
  laid_fits = at is.fits (omega (arith, found.few))
    where
      at : (length block.columns.items ≤ 1) ⊎ (2 + end_of (reached_by s extent block) ≤ most) → extent.steps < 2 ^ 64 → FitsInto s first rows most (width_of_steps extent) block
      at (inl one) few = inl one
      at (inr fits) few = inr (All-weaker (λ (line : List ℕ). length line ≤ end_of (reached_by s extent block)) (λ line. 2 + length line ≤ most) (λ line low. omega (arith, low, fits))
          (block_lines s (width_of_steps extent) block first rows) (block_short s extent first rows block is.start is.laid texts found.steps few found.chosen cells))
