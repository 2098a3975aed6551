-- Free. General lemmas on lists and orders, which say nothing of this product: what a list
-- contains, what holds of each element, what holds of each element and each later one, and what
-- tests of an order say. The crates above may cite them too.
use Rattle.std.proofs.Common.{◌≡◌, zero, suc, true, false, List, [], ◌∷◌, ◌++◌, map, flat_map, get_or, All, AllPairs, Contains, ◌⊎◌, inl, inr, refl, sym, subst, arith}
use Rattle.std.specs.Ordering.{is_lt, is_gt, ordering_reverse}
use Rattle.std.specs.declared.cmp.Ordering.{Ordering}
use Rattle.std.specs.declared.cmp.Ordering.TheVariants.{Less, Equal, Greater}
use Rattle.std.proofs.lemmas.Bool.{false≢true}
use Rattle.std.proofs.lemmas.List.Elements.{All-nil, All-cons, All-map, All-contains, Contains-append_left, Contains-append_right, Contains-append_cases}
use Rattle.std.proofs.lemmas.List.Kept.{AllPairs-cons}

-- ---- what a list contains

module _ {X : Type 0} where
  pub Contains-none : (y : X) → Contains [] y → ⊥
  Contains-none y h = let below = h.1 in omega arith

  pub Contains-first : (x : X) (xs : List X) → Contains (x ∷ xs) x
  Contains-first x xs = (0, omega arith, refl)

  pub Contains-later : (x : X) (xs : List X) (y : X) → Contains xs y → Contains (x ∷ xs) y
  Contains-later x xs y h = let below = h.1 in (suc h.0, omega arith, h.2)

  -- the first element, or one of the rest
  pub Contains-cons_cases : (x : X) (xs : List X) (y : X) → Contains (x ∷ xs) y → (x ≡ y) ⊎ Contains xs y
  Contains-cons_cases x xs y (zero, below, is) = inl is
  Contains-cons_cases x xs y (suc k, below, is) = inr (k, omega arith, is)

module _ {X Y : Type 0} where
  pub Contains-map : (f : X → Y) (xs : List X) (x : X) → Contains xs x → Contains (map f xs) (f x)
  Contains-map f [] x h = absurd (Contains-none x h)
  Contains-map f (w ∷ xs) x h =
      elim (Contains-cons_cases w xs x h) [
        | inl is ↦ subst (λ x. Contains (map f (w ∷ xs)) (f x)) is (Contains-first (f w) (map f xs))
        | inr later ↦ Contains-later (f w) (map f xs) (f x) (Contains-map f xs x later)
      ]

  -- an element of a `map` is that of some element
  pub Contains-from_map : (f : X → Y) (xs : List X) (y : Y) → Contains (map f xs) y → (x : X) × Contains xs x × (f x ≡ y)
  Contains-from_map f [] y h = absurd (Contains-none y h)
  Contains-from_map f (w ∷ xs) y h =
      elim (Contains-cons_cases (f w) (map f xs) y h) [
        | inl is ↦ (w, Contains-first w xs, is)
        | inr later ↦ let found = Contains-from_map f xs y later in (found.0, Contains-later w xs found.0 found.1, found.2)
      ]

  pub Contains-flat_map : (f : X → List Y) (xs : List X) (x : X) (y : Y) → Contains xs x → Contains (f x) y → Contains (flat_map f xs) y
  Contains-flat_map f [] x y h inner = absurd (Contains-none x h)
  Contains-flat_map f (w ∷ xs) x y h inner =
      elim (Contains-cons_cases w xs x h) [
        | inl is ↦ Contains-append_left (f w) (flat_map f xs) y (subst (λ x. Contains (f x) y) (sym is) inner)
        | inr later ↦ Contains-append_right (f w) (flat_map f xs) y (Contains-flat_map f xs x y later inner)
      ]

  -- an element of a `flat_map` is in the piece of some element
  pub Contains-from_flat_map : (f : X → List Y) (xs : List X) (y : Y) → Contains (flat_map f xs) y → (x : X) × Contains xs x × Contains (f x) y
  Contains-from_flat_map f [] y h = absurd (Contains-none y h)
  Contains-from_flat_map f (w ∷ xs) y h =
      elim (Contains-append_cases (f w) (flat_map f xs) y h) [
        | inl here ↦ (w, Contains-first w xs, here)
        | inr later ↦ let found = Contains-from_flat_map f xs y later in (found.0, Contains-later w xs found.0 found.1, found.2)
      ]

-- ---- each element, and each with each later one

-- what holds of all that a list contains holds of each element
pub All-from_contained : {X : Type 0} (P : X → Type 0) (xs : List X) → ((x : X) → Contains xs x → P x) → All P xs
All-from_contained P [] each = All-nil P
All-from_contained P (x ∷ xs) each = All-cons P x xs (each x (Contains-first x xs)) (All-from_contained P xs (λ y h. each y (Contains-later x xs y h)))

module _ {X : Type 0} (R : X → X → Type 0) where
  pub AllPairs-none : AllPairs R []
  AllPairs-none i j d below inside = absurd (omega arith)

  pub AllPairs-single : (x : X) → AllPairs R (x ∷ [])
  AllPairs-single x i j d below inside = absurd (omega arith)

  pub AllPairs-head : (x : X) (xs : List X) → AllPairs R (x ∷ xs) → All (R x) xs
  AllPairs-head x xs h k d below = h zero (suc k) d (omega arith) (omega arith)

  pub AllPairs-tail : (x : X) (xs : List X) → AllPairs R (x ∷ xs) → AllPairs R xs
  AllPairs-tail x xs h i j d below inside = h (suc i) (suc j) d (omega arith) (omega arith)

  -- each element of the one list is before each of the other
  pub AllPairs-append : (xs ys : List X) → AllPairs R xs → AllPairs R ys → ((x y : X) → Contains xs x → Contains ys y → R x y) → AllPairs R (xs ++ ys)
  AllPairs-append [] ys first second across = second
  AllPairs-append (x ∷ xs) ys first second across =
      AllPairs-cons R x (xs ++ ys)
      (All-from_contained (R x) (xs ++ ys) (λ y h. elim (Contains-append_cases xs ys y h) [
        | inl here ↦ All-contains (R x) xs y (AllPairs-head x xs first) here
        | inr later ↦ across x y (Contains-first x xs) later
      ]))
      (AllPairs-append xs ys (AllPairs-tail x xs first) second (λ w y h k. across w y (Contains-later x xs w h) k))

module _ {X Y : Type 0} (R : X → X → Type 0) (S : Y → Y → Type 0) where
  pub AllPairs-map : (f : X → Y) → ((x y : X) → R x y → S (f x) (f y)) → (xs : List X) → AllPairs R xs → AllPairs S (map f xs)
  AllPairs-map f keeps [] h = AllPairs-none S
  AllPairs-map f keeps (x ∷ xs) h =
      AllPairs-cons S (f x) (map f xs)
      (All-map (S (f x)) f xs (λ k d below. keeps x (get_or xs k d) (AllPairs-head R x xs h k d below)))
      (AllPairs-map f keeps xs (AllPairs-tail R x xs h))

  -- pieces that keep to S, those of earlier elements before those of later ones
  pub AllPairs-flat_map : (f : X → List Y) → ((x : X) → AllPairs S (f x)) → ((x y : X) (a b : Y) → R x y → Contains (f x) a → Contains (f y) b → S a b) → (xs : List X) → AllPairs R xs → AllPairs S (flat_map f xs)
  AllPairs-flat_map f inner across [] h = AllPairs-none S
  AllPairs-flat_map f inner across (x ∷ xs) h =
      AllPairs-append S (f x) (flat_map f xs) (inner x) (AllPairs-flat_map f inner across xs (AllPairs-tail R x xs h))
      (λ a b here later. let found = Contains-from_flat_map f xs b later in
      across x found.0 a b (All-contains (R x) xs found.0 (AllPairs-head R x xs h) found.1) here found.2)

-- ---- orders

pub is_gt-reverse : (r : Ordering) → is_gt (ordering_reverse r) ≡ is_lt r
is_gt-reverse Less = refl
is_gt-reverse Equal = refl
is_gt-reverse Greater = refl

pub is_gt-from_lt : (r : Ordering) → is_lt r ≡ true → is_gt r ≡ false
is_gt-from_lt Less e = refl
is_gt-from_lt Equal e = refl
is_gt-from_lt Greater e = absurd (false≢true e)

-- two, neither of them above the other
pub equal-from_neither : (r : Ordering) → is_gt r ≡ false → is_gt (ordering_reverse r) ≡ false → r ≡ Equal
equal-from_neither Less e f = absurd (false≢true (sym f))
equal-from_neither Equal e f = refl
equal-from_neither Greater e f = absurd (false≢true (sym e))
