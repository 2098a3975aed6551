-- Free. Texts of locations: one text more.
use Rattle.std.proofs.Common.{◌≡◌, ◌⊎◌, ℕ, List, [], ◌++◌, length, drop, inl, inr, sym, ap, ◌∙◌}
use Rattle.std.proofs.Math.Seq.{drop-append_seam}
use Rattle.asm_syntax.specs.SourceTree.{Spec}
use Rattle.asm_run.specs.code.KeptTexts.{kept}
use Rattle.asm_run.specs.Written.{text_of_location}
use Rattle.asm_run.specs.code.WrittenEntries.{AreTextsOf}

-- the text after what was there
pub text_behind : (old text new : List ℕ) (start : ℕ) → start ≡ length old → new ≡ old ++ text → drop start new ≡ text
text_behind old text new start behind grown = ap (drop start) grown ∙ ap (λ k. drop k (old ++ text)) behind ∙ drop-append_seam old text

-- the text of a location is kept, or nothing is
pub text_kept : (s : Spec) (n : ℕ) (text : List ℕ) (old new : List (List ℕ)) → text ≡ text_of_location s n → AreTextsOf s old
    → ((m : ℕ) → (kept new m ≡ kept old m) ⊎ ((m ≡ n) × (kept new m ≡ text))) → AreTextsOf s new
text_kept s n text old new is known grown m = at_number (grown m) (known m) where
  at_number : (kept new m ≡ kept old m) ⊎ ((m ≡ n) × (kept new m ≡ text)) → (kept old m ≡ []) ⊎ (kept old m ≡ text_of_location s m)
      → (kept new m ≡ []) ⊎ (kept new m ≡ text_of_location s m)
  at_number (inl same) (inl none) = inl (same ∙ none)
  at_number (inl same) (inr shown) = inr (same ∙ shown)
  at_number (inr here) before = inr (here.1 ∙ is ∙ ap (text_of_location s) (sym here.0))
