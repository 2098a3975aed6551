-- Free. What holds of each of the first elements of a list.
--     each_more     of one element more
--     each_all      of all of them
--     each_at       what holds of each element holds of the one at a place
use Rattle.std.proofs.Common.{◌≡◌, ◌∙◌, ℕ, zero, suc, ◌+◌, ◌<◌, ◌≤◌, List, [], ◌∷◌, ◌++◌, length, map, take, get_or, sym, ap, subst, arith}
use Rattle.std.proofs.lemmas.List.{map-append, take_all, take_more}
use Rattle.asm_explore.specs.ListElements.{Each}

snoc : {Y : Type 0} (P : Y → Type 0) (ys : List Y) (y : Y) → Each P ys → P y → Each P (ys ++ y ∷ [])
snoc P [] y h p = (p, tt)
snoc P (x ∷ ys) y h p = (h.0, snoc P ys y h.1 p)

module _ {X Y : Type 0} (P : Y → Type 0) (f : X → Y) where
  pub each_more : (xs : List X) (k : ℕ) (d : X) → k < length xs → Each P (map f (take k xs)) → P (f (get_or xs k d)) → Each P (map f (take (k + 1) xs))
  each_more xs k d low h p =
      let grown : map f (take (k + 1) xs) ≡ map f (take k xs) ++ f (get_or xs k d) ∷ [] = ap (map f) (take_more xs k d low) ∙ map-append f (take k xs) (get_or xs k d ∷ []) in
      subst (Each P) (sym grown) (snoc P (map f (take k xs)) (f (get_or xs k d)) h p)

  pub each_all : (xs : List X) (k : ℕ) → length xs ≤ k → Each P (map f (take k xs)) → Each P (map f xs)
  each_all xs k end h = subst (λ (ys : List X). Each P (map f ys)) (take_all k xs end) h

  pub each_at : (xs : List X) (k : ℕ) (d : X) → k < length xs → Each P (map f xs) → P (f (get_or xs k d))
  each_at [] k d low h = absurd (omega (arith, low))
  each_at (x ∷ xs) zero d low h = h.0
  each_at (x ∷ xs) (suc k) d low h = let less : k < length xs = omega (arith, low) in each_at xs k d less h.1
