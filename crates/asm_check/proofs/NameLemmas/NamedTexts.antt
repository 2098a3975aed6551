-- Free. Entries of a map whose keys are vectors, seen with texts in their places.
use Rattle.std.proofs.Common.{◌≡◌, ℕ, zero, suc, Bool, true, false, cond, List, [], ◌∷◌, map, slice_get, Some, refl}
use Rattle.std.specs.Prelude.{option_map}
use Rattle.std.specs.Map.{lookup}

module _ {K Q V : Type 0} (text : K → Q) where
  abbrev pub with_text : K × V → Q × V
  with_text e = (text e.0, e.1)

  pub lookup_texts : (p : Q → Bool) (es : List (K × V)) → lookup p (map with_text es) ≡ lookup (λ k. p (text k)) es
  lookup_texts p [] = refl
  lookup_texts p (e ∷ es) = by_test (p (text e.0)) (lookup_texts p es)
    where
      by_test : (b : Bool) → lookup p (map with_text es) ≡ lookup (λ k. p (text k)) es → cond b (Some e.1) (lookup p (map with_text es)) ≡ cond b (Some e.1) (lookup (λ k. p (text k)) es)
      by_test true rest = refl
      by_test false rest = rest

  pub entry_texts : (es : List (K × V)) (i : ℕ) → slice_get (map with_text es) i ≡ option_map with_text (slice_get es i)
  entry_texts [] i = refl
  entry_texts (e ∷ es) zero = refl
  entry_texts (e ∷ es) (suc i) = entry_texts es i
