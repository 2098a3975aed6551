-- Free. What is so of all elements of lists.
--     all_flat               of all lists that something gives
--     all_front, all_back    of the first, or the last, of two lists
--     all_both               if it follows from what is so of all, and what else is
--     all_swapped            of each of some and each of others, in either order
--     short_more             texts that are no longer than a number are no longer than a greater one
use Rattle.std.proofs.Common.{◌≤◌, ℕ, List, [], ◌∷◌, ◌++◌, length, le_trans}
use Rattle.std.specs.Prelude.{All}
use Rattle.std.specs.List.{flat_map}
use Rattle.std.proofs.lemmas.List.Elements.{All-append, All-cons, All-head, All-nil, All-tail, All-weaker}
use Rattle.asm_explore_table.specs.code.Extents.{AreShort}

pub all_flat : {X Y : Type 0} (P : Y → Type 0) (h : X → List Y) (xs : List X) → All (λ x. All P (h x)) xs → All P (flat_map h xs)
all_flat P h [] all = All-nil P
all_flat P h (x ∷ xs) all = All-append P (h x) (flat_map h xs) (All-head (λ y. All P (h y)) x xs all) (all_flat P h xs (All-tail (λ y. All P (h y)) x xs all))

pub all_front : {X : Type 0} (P : X → Type 0) (xs ys : List X) → All P (xs ++ ys) → All P xs
all_front P [] ys all = All-nil P
all_front P (x ∷ xs) ys all = All-cons P x xs (All-head P x (xs ++ ys) all) (all_front P xs ys (All-tail P x (xs ++ ys) all))

pub all_back : {X : Type 0} (P : X → Type 0) (xs ys : List X) → All P (xs ++ ys) → All P ys
all_back P [] ys all = all
all_back P (x ∷ xs) ys all = all_back P xs ys (All-tail P x (xs ++ ys) all)

pub all_both : {X : Type 0} (P Q R : X → Type 0) → ((x : X) → P x → Q x → R x) → (xs : List X) → All P xs → All Q xs → All R xs
all_both P Q R both [] ps qs = All-nil R
all_both P Q R both (x ∷ xs) ps qs =
    All-cons R x xs (both x (All-head P x xs ps) (All-head Q x xs qs)) (all_both P Q R both xs (All-tail P x xs ps) (All-tail Q x xs qs))

pub all_swapped : {X Y : Type 0} (R : X → Y → Type 0) (xs : List X) (ys : List Y) → All (λ x. All (R x) ys) xs → All (λ y. All (λ x. R x y) xs) ys
all_swapped R xs [] all = All-nil (λ y. All (λ x. R x y) xs)
all_swapped R xs (y ∷ ys) all =
    All-cons (λ y. All (λ x. R x y) xs) y ys (All-weaker (λ x. All (R x) (y ∷ ys)) (λ x. R x y) (λ x each. All-head (R x) y ys each) xs all)
    (all_swapped R xs ys (All-weaker (λ x. All (R x) (y ∷ ys)) (λ x. All (R x) ys) (λ x each. All-tail (R x) y ys each) xs all))

pub short_more : (m n : ℕ) → m ≤ n → (texts : List (List ℕ)) → AreShort m texts → AreShort n texts
short_more m n le texts short = All-weaker (λ (t : List ℕ). length t ≤ m) (λ t. length t ≤ n) (λ t fits. le_trans fits le) texts short
