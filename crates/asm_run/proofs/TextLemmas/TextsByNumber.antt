-- Free. Texts that are made for one number after the other.
use Rattle.std.proofs.Common.{◌≡◌, ℕ, zero, suc, ◌+◌, List, [], ◌∷◌, ◌++◌, append_assoc, sym, ap, ◌∙◌, add-zero, arith}
use Rattle.std.specs.List.{flat_map, range_with_len}
use Rattle.std.proofs.lemmas.Grind.{flat_map-append}
use Rattle.std.proofs.lemmas.List.{append-nil}

range_more : (a n : ℕ) → range_with_len a (suc n) ≡ range_with_len a n ++ (a + n) ∷ []
range_more a zero = ap (λ k. k ∷ []) (sym (add-zero a))
range_more a (suc n) =
    let e : a + 1 + n ≡ a + suc n = omega arith in
    ap (λ ks. a ∷ ks) (range_more (a + 1) n) ∙ ap (λ k. a ∷ (range_with_len (a + 1) n ++ k ∷ [])) e

-- one number more
pub flat_map-range_more : (g : ℕ → List ℕ) (n : ℕ) → flat_map g (range_with_len 0 (n + 1)) ≡ flat_map g (range_with_len 0 n) ++ g n
flat_map-range_more g n =
    let one : n + 1 ≡ suc n = omega arith in
    let at : 0 + n ≡ n = omega arith in
    ap (λ k. flat_map g (range_with_len 0 k)) one
    ∙ ap (flat_map g) (range_more 0 n)
    ∙ flat_map-append g (range_with_len 0 n) ((0 + n) ∷ [])
    ∙ ap (λ k. flat_map g (range_with_len 0 n) ++ (g k ++ [])) at
    ∙ ap (λ ys. flat_map g (range_with_len 0 n) ++ ys) (append-nil (g n))

-- a text so far, and what is added to it
pub text_more : (g : ℕ → List ℕ) (n : ℕ) (first old new : List ℕ) → old ≡ first ++ flat_map g (range_with_len 0 n) → new ≡ old ++ g n → new ≡ first ++ flat_map g (range_with_len 0 (n + 1))
text_more g n first old new before grown =
    grown ∙ ap (λ ys. ys ++ g n) before ∙ append_assoc first (flat_map g (range_with_len 0 n)) (g n)
    ∙ ap (λ ys. first ++ ys) (sym (flat_map-range_more g n))
