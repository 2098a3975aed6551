-- Free. A table, once its columns are known.
--     all_shown, fewer_shown     the columns that are shown are some of all
--     filter_alike               tests that agree on the first numbers
--     columns_known              the columns are those of the definition
--     blocks_within              each column of the blocks is of a location
--     table_made                 the lines that are written are a table
use Rattle.std.proofs.Common.{◌≡◌, ◌∙◌, ◌+◌, ◌-◌, ◌<◌, ◌≤◌, ◌⊎◌, inl, inr, ◌&&◌, ◌++◌, ◌∷◌, [], ℕ, zero, suc, Bool, false, List, length, map, max, take, cond, decimal, ap, refl, subst, sym, append_assoc, arith}
use Rattle.std.specs.Prelude.{All, filter, is_some, slice_index_or}
use Rattle.std.specs.List.{flat_map, range_with_len}
use Rattle.std.proofs.lemmas.List.{length-take-le, take_all}
use Rattle.std.proofs.lemmas.List.Elements.{All-take}
use Rattle.std.proofs.lemmas.Bool.{cases_lt}
use Rattle.asm_state.specs.Location.{State}
use Rattle.asm_state.specs.Signature.{count_of}
use Rattle.asm_state.specs.Updates.{is_proper}
use Rattle.asm_syntax.specs.SourceTree.{Spec}
use Rattle.asm_check.specs.Shapes.{shape_of}
use Rattle.asm_explore_texts.specs.Comments.{comments}
use Rattle.asm_explore_table.specs.Rows.{Row}
use Rattle.asm_explore_table.specs.Tables.{FitsInto, IsClearBlock, IsTable, blocks_lines, columns, is_column, more_columns, numbered, numbers_in, shown_columns}
use Rattle.asm_explore_table.specs.declared.block.Block.{Block}
use Rattle.asm_explore_table.specs.declared.block.Column.{Column}
use Rattle.asm_explore_table.specs.declared.extent.Extent.{Extent}
use Rattle.asm_explore_table.specs.code.Extents.{IsExtentOf}
use Rattle.asm_explore_table.specs.code.Layouts.{AreFilled, IsLaid, width_of_steps}
use Rattle.asm_explore_table.specs.code.StepsMade.{AreBlocks, AreWithin, IsWithin, column_by}
use Rattle.asm_explore_table.proofs.AllLists.{all_back, all_both, all_front}
use Rattle.asm_explore_table.proofs.ChangeLists.{any_mapped, filter_more}
use Rattle.asm_explore_table.proofs.LaidTables.{laid_clear, laid_fits}
use Rattle.asm_explore_table.proofs.TableLines.{comments_more}

pub all_shown : (P : ℕ → Type 0) (names : List (List ℕ)) (all : List ℕ) → All P all → All P (shown_columns names all)
all_shown P [] all is = All-take P 200 all is
all_shown P (name ∷ names) all is = is

pub fewer_shown : (names : List (List ℕ)) (all : List ℕ) → length (shown_columns names all) ≤ length all
fewer_shown [] all = at (cases_lt 200 (length all))
  where
    at : (200 < length all) ⊎ (length all ≤ 200) → length (take 200 all) ≤ length all
    at (inl more) =
        let many : length (take 200 all) ≡ 200 = length-take-le 200 all (omega (arith, more)) in
        omega (arith, many, more)
    at (inr few) =
        let same : length (take 200 all) ≡ length all = ap length (take_all 200 all few) in
        omega (arith, same)
fewer_shown (name ∷ names) all = omega arith

pub filter_alike : (p q : ℕ → Bool) (count : ℕ) → ((n : ℕ) → n < count → p n ≡ q n) → filter p (range_with_len 0 count) ≡ filter q (range_with_len 0 count)
filter_alike p q zero same = refl
filter_alike p q (suc k) same =
    let after : suc k ≡ k + 1 = omega arith in
    let here : k < suc k = omega arith in
    ap (λ n. filter p (range_with_len 0 n)) after ∙ filter_more p k
    ∙ (λ j. filter_alike p q k (λ n low. same n (omega (arith, low))) j ++ cond (same k here j) (k ∷ []) [])
    ∙ sym (filter_more q k) ∙ ap (λ n. filter q (range_with_len 0 n)) (sym after)

module _ (s : Spec) (first : State) (rows : List Row) where
  by_names : (names : List (List ℕ)) (extent : Extent) → IsExtentOf s first extent rows → (n : ℕ) → n < count_of (shape_of s)
      → column_by s names (slice_index_or extent.changed.items n false) (numbered s n) ≡ is_column s names rows (numbered s n)
  by_names [] extent found n low = ap (λ b. is_proper (numbered s n) && b) (found.changed n low)
  by_names (name ∷ names) extent found n low = refl

  pub columns_known : (names : List (List ℕ)) (extent : Extent) → IsExtentOf s first extent rows
      → filter (λ n. column_by s names (slice_index_or extent.changed.items n false) (numbered s n)) (range_with_len 0 (count_of (shape_of s))) ≡ columns s names rows
  columns_known names extent found =
      filter_alike (λ n. column_by s names (slice_index_or extent.changed.items n false) (numbered s n)) (λ n. is_column s names rows (numbered s n)) (count_of (shape_of s))
      (by_names names extent found)

-- ---- blocks

located : (P : ℕ → Type 0) (cs : List Column) → All P (map (λ c. c.location) cs) → All (λ c. P c.location) cs
located P [] all k d low = absurd (omega (arith, low))
located P (c ∷ cs) all zero d low = all zero 0 (omega arith)
located P (c ∷ cs) all (suc k) d low = located P cs (λ i e small. all (suc i) e (omega (arith, small))) k d (omega (arith, low))

pub blocks_within : (count : ℕ) (blocks : List Block) → All (λ n. n < count) (flat_map numbers_in blocks) → AreWithin count blocks
blocks_within count [] all k d low = absurd (omega (arith, low))
blocks_within count (b ∷ blocks) all zero d low = located (λ n. n < count) b.columns.items (all_front (λ n. n < count) (numbers_in b) (flat_map numbers_in blocks) all)
blocks_within count (b ∷ blocks) all (suc k) d low =
    blocks_within count blocks (all_back (λ n. n < count) (numbers_in b) (flat_map numbers_in blocks) all) k d (omega (arith, low))

module _ (s : Spec) (names : List (List ℕ)) (most : ℕ) (first : State) (rows : List Row) (extent : Extent) (found : IsExtentOf s first extent rows) (width : ℕ)
    (is_width : width ≡ width_of_steps extent) (out mid new : List ℕ) where
  abbrev all : List ℕ
  all = columns s names rows

  abbrev rest : List (List ℕ)
  rest = more_columns (length all - length (shown_columns names all))

  clear : (blocks : List Block) → All (IsLaid s extent most) blocks → AreWithin (count_of (shape_of s)) blocks → All (IsClearBlock s first rows width) blocks
  clear blocks laid within = all_both (IsLaid s extent most) (IsWithin (count_of (shape_of s))) (IsClearBlock s first rows width)
      (λ block is low. subst (λ w. IsClearBlock s first rows w block) (sym is_width) (laid_clear s extent first rows found most block is low)) blocks laid within

  fits : (blocks : List Block) → All (IsLaid s extent most) blocks → AreWithin (count_of (shape_of s)) blocks → All (FitsInto s first rows most width) blocks
  fits blocks laid within = all_both (IsLaid s extent most) (IsWithin (count_of (shape_of s))) (FitsInto s first rows most width)
      (λ block is low. subst (λ w. FitsInto s first rows most w block) (sym is_width) (laid_fits s extent first rows found most block is low)) blocks laid within

  pub table_made : (blocks : List Block) → AreBlocks extent.chooses blocks → AreFilled blocks → All (IsLaid s extent most) blocks → AreWithin (count_of (shape_of s)) blocks
      → flat_map numbers_in blocks ≡ shown_columns names all
      → ((head : Block) (others : List Block) → blocks ≡ head ∷ others → mid ≡ out ++ comments (blocks_lines s width first rows head others)) → new ≡ mid ++ comments rest
      → (lines : List (List ℕ)) × (new ≡ out ++ comments lines) × IsTable s names most first rows lines
  table_made [] marked filled laid within of_all written added = absurd marked
  table_made (head ∷ others) marked filled laid within of_all written added =
      let lines = blocks_lines s width first rows head others in (
        lines ++ rest,
        added ∙ ap (λ t. t ++ comments rest) (written head others refl) ∙ append_assoc out (comments lines) (comments rest) ∙ ap (λ t. out ++ t) (sym (comments_more lines rest)),
        record {
          width = width;
          head = head;
          others = others;
          of_all = of_all;
          chosen = marked.0 ∙ found.chooses;
          unchosen = sym (any_mapped (λ b. b) (λ (b : Block). is_some b.chosen) others) ∙ marked.1;
          filled = filled.0;
          begins = filled.1;
          steps = is_width ∙ ap (λ n. max 4 (length (decimal n))) found.steps;
          clear = clear (head ∷ others) laid within;
          fits = fits (head ∷ others) laid within;
          is = refl;
        },
      )
