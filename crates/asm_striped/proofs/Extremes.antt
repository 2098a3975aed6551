-- Free. The least and the greatest of a list, by its members.
use Rattle.std.proofs.Common.{◌≡◌, ◌⊎◌, ℕ, ◌≤◌, min, max, List, [], ◌∷◌, refl, subst, inl, inr, ⊎_elim, arith}
use mathlib.Core.Logic.{dite}
use native.Mathlib.Decide.{dec_le}
use Rattle.asm_striped.specs.code.Log.{low_mark, high_mark, least, greatest}
use Rattle.asm_striped.proofs.Members.{In, Same, Grows}

pub least_mark : (xs : List ℕ) → least xs ≤ low_mark
least_mark [] = omega arith
least_mark (x ∷ xs) = let r = least_mark xs in omega arith

pub least_low : (xs : List ℕ) (x : ℕ) → In x xs → least xs ≤ x
least_low [] x h = absurd h
least_low (y ∷ ys) x h = ⊎_elim (λ e. omega arith) (λ r. let i = least_low ys x r in omega arith) h

least_above : (xs : List ℕ) (b : ℕ) → b ≤ low_mark → ((x : ℕ) → In x xs → b ≤ x) → b ≤ least xs
least_above [] b m h = m
least_above (x ∷ xs) b m h = let r = least_above xs b m (λ y i. h y (inr i)) in let s = h x (inl refl) in omega arith

pub least_stands : (xs : List ℕ) → (least xs ≡ low_mark) ⊎ In (least xs) xs
least_stands [] = inl refl
least_stands (x ∷ xs) =
    dite (dec_le x (least xs))
    (λ below. let e : min x (least xs) ≡ x = omega arith in inr (inl e))
    (λ above.
    let e : least xs ≡ min x (least xs) = omega arith in
    ⊎_elim (λ mark. inl (omega arith)) (λ stands. inr (inr (subst (λ y. In y xs) e stands))) (least_stands xs))

pub least_same : (xs ys : List ℕ) → Same xs ys → least xs ≡ least ys
least_same xs ys s =
    let a = least_above xs (least ys) (least_mark ys) (λ x i. least_low ys x (s.there x i)) in
    let b = least_above ys (least xs) (least_mark xs) (λ x i. least_low xs x (s.back x i)) in
    omega arith

pub least_grows : (xs ys : List ℕ) (a : ℕ) → Grows xs ys a → min (least xs) a ≡ least ys
least_grows xs ys a g =
    let m = least_mark xs in
    let low = least_low ys a g.added in
    let kept = least_above xs (least ys) (least_mark ys) (λ x i. least_low ys x (g.kept x i)) in
    let only = least_above ys (min (least xs) a) (omega arith) (λ x i. ⊎_elim (λ old. let l = least_low xs x old in omega arith) (λ new. omega arith) (g.only x i)) in
    omega arith

pub greatest_high : (xs : List ℕ) (x : ℕ) → In x xs → x ≤ greatest xs
greatest_high [] x h = absurd h
greatest_high (y ∷ ys) x h = ⊎_elim (λ e. omega arith) (λ r. let i = greatest_high ys x r in omega arith) h

greatest_below : (xs : List ℕ) (b : ℕ) → ((x : ℕ) → In x xs → x ≤ b) → greatest xs ≤ b
greatest_below [] b h = omega arith
greatest_below (x ∷ xs) b h = let r = greatest_below xs b (λ y i. h y (inr i)) in let s = h x (inl refl) in omega arith

pub greatest_stands : (xs : List ℕ) → (greatest xs ≡ high_mark) ⊎ In (greatest xs) xs
greatest_stands [] = inl refl
greatest_stands (x ∷ xs) =
    dite (dec_le (greatest xs) x)
    (λ above. let e : max x (greatest xs) ≡ x = omega arith in inr (inl e))
    (λ below.
    let e : greatest xs ≡ max x (greatest xs) = omega arith in
    ⊎_elim (λ mark. inl (omega arith)) (λ stands. inr (inr (subst (λ y. In y xs) e stands))) (greatest_stands xs))

pub greatest_same : (xs ys : List ℕ) → Same xs ys → greatest xs ≡ greatest ys
greatest_same xs ys s =
    let a = greatest_below xs (greatest ys) (λ x i. greatest_high ys x (s.there x i)) in
    let b = greatest_below ys (greatest xs) (λ x i. greatest_high xs x (s.back x i)) in
    omega arith

pub greatest_grows : (xs ys : List ℕ) (a : ℕ) → Grows xs ys a → max (greatest xs) a ≡ greatest ys
greatest_grows xs ys a g =
    let high = greatest_high ys a g.added in
    let kept = greatest_below xs (greatest ys) (λ x i. greatest_high ys x (g.kept x i)) in
    let only = greatest_below ys (max (greatest xs) a) (λ x i. ⊎_elim (λ old. let l = greatest_high xs x old in omega arith) (λ new. omega arith) (g.only x i)) in
    omega arith
