-- Free. Whether an ordered set has a text.
use Rattle.std.proofs.Common.{◌≡◌, ℕ, Bool, true, false, cond, ◌||◌, List, [], ◌∷◌, refl, sym, ap, ◌∙◌, nat_eq}
use Rattle.std.specs.Cmp.{unsigned_ties}
use Rattle.std.specs.Cmp.Lexicographic.{pointwise, lists_ties, nat_list_eq_equiv}
use Rattle.std.specs.List.{list_any}
use Rattle.std.specs.Borrow.{Bor}
use Rattle.std.specs.Ordering.{nat_cmp}
use Rattle.asm_check.specs.code.names.TextKeys.{is_key, is_spelled}

-- a search by the order ends when the texts are the same
spelled_same : (x y : List ℕ) → is_spelled x y ≡ pointwise nat_eq x y
spelled_same x y = sym (lists_ties nat_cmp unsigned_ties x y)

any_alike : {A : Type 0} (p q : A → Bool) → ((x : A) → p x ≡ q x) → (xs : List A) → list_any p xs ≡ list_any q xs
any_alike p q same [] = refl
any_alike p q same (x ∷ xs) = ap (λ b. b || list_any p xs) (same x) ∙ ap (λ b. q x || b) (any_alike p q same xs)

-- whether an ordered set has a text
pub has_text : (keys : List (Bor (List ℕ))) (x : List ℕ) → list_any (λ k. is_spelled x k.now) keys ≡ list_any (is_key x) keys
has_text keys x = any_alike (λ k. is_spelled x k.now) (is_key x) (λ k. spelled_same x k.now) keys

-- one more key
pub one_more_key : (keys new : List (Bor (List ℕ))) (key : Bor (List ℕ))
    → ((q : Bor (List ℕ)) → list_any (λ k. is_spelled q.now k.now) new ≡ cond (is_spelled key.now q.now) true (list_any (λ k. is_spelled q.now k.now) keys))
    → (x : List ℕ) → list_any (is_key x) new ≡ (list_any (is_key x) keys || is_key x key)
one_more_key keys new key put x =
    sym (has_text new x) ∙ put (record key { now = x })
    ∙ ap (λ b. cond b true (list_any (λ k. is_spelled x k.now) keys)) (spelled_same key.now x ∙ nat_list_eq_equiv.symm key.now x)
    ∙ ap (λ b. cond (is_key x key) true b) (has_text keys x)
    ∙ turned (is_key x key) (list_any (is_key x) keys)
  where
    turned : (b o : Bool) → cond b true o ≡ (o || b)
    turned true true = refl
    turned true false = refl
    turned false true = refl
    turned false false = refl
