-- Free. The least of faults that are met one after another.
use Rattle.std.proofs.Common.{◌≡◌, ℕ, List, [], ◌∷◌, ◌++◌, Option, Some, refl, ap, sym, ◌∙◌}
use Rattle.asm_check.specs.code.LeastFaults.{lesser_fault, least_after}

pub noted_append : (found : Option (ℕ × ℕ)) (xs ys : List (ℕ × ℕ)) → least_after found (xs ++ ys) ≡ least_after (least_after found xs) ys
noted_append found [] ys = refl
noted_append found (f ∷ fs) ys = noted_append (lesser_fault found (Some f)) fs ys

-- what was found before, and then the rest
pub noted_after : (first found : Option (ℕ × ℕ)) (xs ys : List (ℕ × ℕ)) → found ≡ least_after first xs → least_after found ys ≡ least_after first (xs ++ ys)
noted_after first found xs ys e = ap (λ f. least_after f ys) e ∙ sym (noted_append first xs ys)

-- one more
pub noted_one : (first found : Option (ℕ × ℕ)) (xs : List (ℕ × ℕ)) (f : ℕ × ℕ) → found ≡ least_after first xs → least_after found (f ∷ []) ≡ least_after first (xs ++ f ∷ [])
noted_one first found xs f e = noted_after first found xs (f ∷ []) e
