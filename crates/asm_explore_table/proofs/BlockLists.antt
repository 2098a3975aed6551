-- Free. Blocks of columns.
--     numbered_more     the columns of blocks, the last of which has one more
--     marked_alike      whether something is chosen, if the last block has its columns changed
use Rattle.std.proofs.Common.{◌≡◌, ◌∙◌, ◌+◌, ◌<◌, ◌++◌, ◌∷◌, [], ℕ, Bool, List, length, get_or, take, map, ap, subst, sym, append-nil, append_assoc}
use Rattle.std.specs.Prelude.{is_some}
use Rattle.std.specs.List.{flat_map}
use Rattle.std.proofs.lemmas.List.{map-append, take_more}
use Rattle.std.proofs.lemmas.List.Concat.{flat_map-append}
use Rattle.asm_explore_table.specs.Tables.{numbers_in}
use Rattle.asm_explore_table.specs.declared.block.Block.{Block}
use Rattle.asm_explore_table.specs.code.StepsMade.{AreBlocks, AreMarked}

module _ (bs : List Block) (b c : Block) where
  with_last : (d : Block) → flat_map numbers_in (bs ++ d ∷ []) ≡ flat_map numbers_in bs ++ numbers_in d
  with_last d = flat_map-append numbers_in bs (d ∷ []) ∙ ap (λ ns. flat_map numbers_in bs ++ ns) (append-nil (numbers_in d))

  pub numbered_more : (n : ℕ) (columns : List ℕ) (k : ℕ) → k < length columns → numbers_in c ≡ numbers_in b ++ n ∷ [] → flat_map numbers_in (bs ++ b ∷ []) ≡ take k columns
      → (d : ℕ) → n ≡ get_or columns k d → flat_map numbers_in (bs ++ c ∷ []) ≡ take (k + 1) columns
  numbered_more n columns k low added before d is =
      with_last c ∙ ap (λ ns. flat_map numbers_in bs ++ ns) added ∙ sym (append_assoc (flat_map numbers_in bs) (numbers_in b) (n ∷ []))
      ∙ ap (λ ns. ns ++ n ∷ []) (sym (with_last b) ∙ before) ∙ ap (λ m. take k columns ++ m ∷ []) is ∙ sym (take_more columns k d low)

  marks_of : (d : Block) → map (λ (x : Block). is_some x.chosen) (bs ++ d ∷ []) ≡ map (λ (x : Block). is_some x.chosen) bs ++ is_some d.chosen ∷ []
  marks_of d = map-append (λ (x : Block). is_some x.chosen) bs (d ∷ [])

pub marked_alike : (chooses : Bool) (bs : List Block) (b c : Block) → c.chosen ≡ b.chosen → AreBlocks chooses (bs ++ b ∷ []) → AreBlocks chooses (bs ++ c ∷ [])
marked_alike chooses bs b c same marked =
    subst (AreMarked chooses)
    (marks_of bs b c b ∙ ap (λ o. map (λ (x : Block). is_some x.chosen) bs ++ is_some o ∷ []) (sym same) ∙ sym (marks_of bs b c c)) marked
