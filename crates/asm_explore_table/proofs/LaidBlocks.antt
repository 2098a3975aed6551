-- Free. Blocks to which columns are added.
--     room_made        where there is room for one more, the blocks are laid
--     all_filled       each block has a column, but one that is alone
--     laid_begin       a block without columns is laid
--     added_numbers    the locations of a block, and of one column more
--     added_laid       a block is laid with one column more, if it is wide enough
--     added_reached    and reaches as far as it
use Rattle.std.proofs.Common.{◌≡◌, ◌∙◌, ◌+◌, ◌≤◌, ◌⊎◌, ◌++◌, inl, inr, Bool, true, false, ℕ, suc, List, [], ◌∷◌, length, map, Option, ap, refl, subst, sym, arith, length-append}
use Rattle.std.specs.Prelude.{All}
use Rattle.std.proofs.lemmas.List.{map-append}
use Rattle.std.proofs.lemmas.List.Elements.{All-head, All-nil, All-push, All-tail}
use Rattle.asm_syntax.specs.SourceTree.{Spec}
use Rattle.asm_explore_table.specs.Tables.{HasColumn, numbers_in}
use Rattle.asm_explore_table.specs.declared.block.Block.{Block}
use Rattle.asm_explore_table.specs.declared.block.Column.{Column}
use Rattle.asm_explore_table.specs.declared.extent.Extent.{Extent}
use Rattle.asm_explore_table.specs.declared.layout.Begun.{Begun}
use Rattle.asm_explore_table.specs.declared.layout.Reached.{Reached}
use Rattle.asm_explore_table.specs.declared.layout.Unplaced.{Unplaced}
use Rattle.asm_explore_table.proofs.AllLists.{all_back, all_front}
use Rattle.asm_explore_table.specs.code.Layouts.{AreFilled, AreLaid, IsChosenStart, IsFullWith, IsLaid, end_of, placed_column, reached_by, reached_first, reached_with, unplaced, with_column}

module _ (s : Spec) (extent : Extent) where
  -- ---- one column more

  reached_more : (reached : Reached) (columns : List Column) (c : Column) → reached_with s extent reached (columns ++ c ∷ []) ≡ with_column (reached_with s extent reached columns) (unplaced s extent c.location)
  reached_more reached [] c = refl
  reached_more reached (d ∷ columns) c = reached_more (with_column reached (unplaced s extent d.location)) columns c

  laid_more : (reached : Reached) (columns : List Column) (n : ℕ) → AreLaid s extent reached columns
      → AreLaid s extent reached (columns ++ placed_column (reached_with s extent reached columns) (unplaced s extent n) ∷ [])
  laid_more reached [] n laid = (refl, tt)
  laid_more reached (d ∷ columns) n laid = (laid.0, laid_more (with_column reached (unplaced s extent d.location)) columns n laid.1)

  module _ (most : ℕ) (b c : Block) (at : Reached) (n : ℕ) (one : Unplaced) (is_one : one ≡ unplaced s extent n) (same : c.chosen ≡ b.chosen) (reached : at ≡ reached_by s extent b)
      (added : c.columns.items ≡ b.columns.items ++ placed_column at one ∷ []) where
    abbrev last : Column
    last = placed_column (reached_by s extent b) (unplaced s extent n)

    placed : c.columns.items ≡ b.columns.items ++ last ∷ []
    placed = added ∙ (λ j. b.columns.items ++ placed_column (reached j) (is_one j) ∷ [])

    pub added_numbers : numbers_in c ≡ numbers_in b ++ n ∷ []
    added_numbers = ap (map (λ (d : Column). d.location)) placed ∙ map-append (λ (d : Column). d.location) b.columns.items (last ∷ [])

    pub added_reached : with_column at one ≡ reached_by s extent c
    added_reached =
        (λ j. with_column (reached j) (is_one j)) ∙ sym (reached_more (reached_first extent b.chosen) b.columns.items last)
        ∙ (λ j. reached_with s extent (reached_first extent (sym same j)) (sym placed j))

    many : length c.columns.items ≡ length b.columns.items + 1
    many = ap length placed ∙ length-append b.columns.items (last ∷ [])

    pub added_column : HasColumn c
    added_column = omega (arith, many)

    pub added_laid : IsLaid s extent most b → (b.columns.items ≡ []) ⊎ (2 + end_of (with_column at one) ≤ most) → IsLaid s extent most c
    added_laid is room = record {
      start = subst (IsChosenStart extent) (sym same) is.start;
      laid = subst (λ (o : Option ℕ). AreLaid s extent (reached_first extent o) c.columns.items) (sym same)
          (subst (AreLaid s extent (reached_first extent b.chosen)) (sym placed) (laid_more (reached_first extent b.chosen) b.columns.items n is.laid));
      fits = fits room;
    }
      where
        fits : (b.columns.items ≡ []) ⊎ (2 + end_of (with_column at one) ≤ most) → (length c.columns.items ≤ 1) ⊎ (2 + end_of (reached_by s extent c) ≤ most)
        fits (inl none) =
            let empty : length b.columns.items ≡ 0 = ap length none in
            inl (omega (arith, many, empty))
        fits (inr low) = inr (subst (λ (r : Reached). 2 + end_of r ≤ most) added_reached low)

  -- ---- blocks

  pub laid_begin : (most : ℕ) (b : Block) → b.columns.items ≡ [] → IsChosenStart extent b.chosen → IsLaid s extent most b
  laid_begin most b none start = record {
    start = start;
    laid = subst (AreLaid s extent (reached_first extent b.chosen)) (sym none) tt;
    fits = inl (let empty : length b.columns.items ≡ 0 = ap length none in omega (arith, empty));
  }

  pub reached_begin : (b : Block) (at : Reached) → b.columns.items ≡ [] → at ≡ reached_first extent b.chosen → at ≡ reached_by s extent b
  reached_begin b at none is = is ∙ ap (reached_with s extent (reached_first extent b.chosen)) (sym none)

-- ---- room for one more

pub record HasRoomFor (s : Spec) (extent : Extent) (most : ℕ) (blocks : List Block) (begun : Begun) (c : Unplaced) : Type 0 where
  pub laid : All (IsLaid s extent most) blocks
  pub last : IsLaid s extent most begun.block
  pub reached : begun.reached ≡ reached_by s extent begun.block
  pub room : (begun.block.columns.items ≡ []) ⊎ (2 + end_of (with_column begun.reached c) ≤ most)
  pub filled : All HasColumn blocks

-- the last of them is the one that is begun
module _ (s : Spec) (extent : Extent) (most : ℕ) (blocks blocks2 : List Block) (begun begun2 next : Begun) (c : Unplaced) where
  pub room_made : All (IsLaid s extent most) (blocks ++ begun.block ∷ []) → begun.reached ≡ reached_by s extent begun.block → All HasColumn blocks
      → next.block.columns.items ≡ [] → IsChosenStart extent next.block.chosen → next.reached ≡ reached_first extent next.block.chosen
      → (full : Bool) → IsFullWith begun c most full
      → (full ≡ false → (blocks2 ≡ blocks) × (begun2 ≡ begun)) → (full ≡ true → (blocks2 ≡ blocks ++ begun.block ∷ []) × (begun2 ≡ next))
      → HasRoomFor s extent most blocks2 begun2 c
  room_made laid reached filled none start begins false is kept ended =
      let same = kept refl in
      subst (λ (bs : List Block). HasRoomFor s extent most bs begun2 c) (sym same.0)
      (subst (λ (b : Begun). HasRoomFor s extent most blocks b c) (sym same.1)
      (record { laid = all_front (IsLaid s extent most) blocks (begun.block ∷ []) laid; last = All-head (IsLaid s extent most) begun.block [] (all_back (IsLaid s extent most) blocks (begun.block ∷ []) laid); reached = reached; room = is.room refl; filled = filled }))
  room_made laid reached filled none start begins true is kept ended =
      let same = ended refl in
      subst (λ (bs : List Block). HasRoomFor s extent most bs begun2 c) (sym same.0)
      (subst (λ (b : Begun). HasRoomFor s extent most (blocks ++ begun.block ∷ []) b c) (sym same.1)
      (record {
        laid = laid;
        last = laid_begin s extent most next.block none start;
        reached = reached_begin s extent next.block next.reached none begins;
        room = inl none;
        filled = All-push HasColumn blocks begun.block filled (is.column refl);
      }))

pub all_filled : (blocks : List Block) (last : Block) → All HasColumn blocks → (blocks ≡ []) ⊎ HasColumn last → AreFilled (blocks ++ last ∷ [])
all_filled [] last filled begins = (All-nil HasColumn, inl refl)
all_filled (head ∷ blocks) last filled begins =
    (All-push HasColumn blocks last (All-tail HasColumn head blocks filled) (last_filled begins), inr (All-head HasColumn head blocks filled))
  where
    last_filled : (head ∷ blocks ≡ []) ⊎ HasColumn last → HasColumn last
    last_filled (inl none) =
        let no : suc (length blocks) ≡ 0 = ap length none in
        absurd (omega (arith, no))
    last_filled (inr one) = one
