-- Free. Lists, and two lists side by side.
--     each_*, any_weaker     what holds of each, or of some, of a list's elements
--     got_same, got_mapped   elements by their numbers
--     some_at, slice_first, slice_last, take_next    what is in a list is in it with more after it
--     pairs_*                of two lists side by side
--     apart_*                of lists whose elements differ
use Rattle.std.proofs.Common.{◌≡◌, ◌≢◌, ℕ, zero, suc, ◌+◌, ◌<◌, ◌≤◌, ◌⊎◌, List, [], ◌∷◌, ◌++◌, length, map, take, get_or, inl, inr, refl, sym, ap, subst, ◌∙◌, arith}
use Rattle.std.specs.Prelude.{slice_get, Some}
use Rattle.std.proofs.lemmas.List.{take_more, take-append-le}
use Rattle.std.proofs.lemmas.Option.{get_or_from_slice_get, slice_get-get_or, slice_get_within}
use Rattle.asm_explore.specs.ListElements.{Each, AnyOf}
use Rattle.asm_graph.specs.Graphs.{AreApart, Pairs}

module _ {X : Type 0} (P : X → Type 0) where
  pub each_append : (xs ys : List X) → Each P xs → Each P ys → Each P (xs ++ ys)
  each_append [] ys h g = g
  each_append (x ∷ xs) ys h g = (h.0, each_append xs ys h.1 g)

  pub each_got : (xs : List X) (i : ℕ) (x : X) → Each P xs → slice_get xs i ≡ Some x → P x
  each_got [] i x h there = cc
  each_got (y ∷ ys) zero x h there = subst P (cc) h.0
  each_got (y ∷ ys) (suc i) x h there = each_got ys i x h.1 there

  pub each_weaker : (Q : X → Type 0) → ((x : X) → P x → Q x) → (xs : List X) → Each P xs → Each Q xs
  each_weaker Q f [] h = tt
  each_weaker Q f (x ∷ xs) h = (f x h.0, each_weaker Q f xs h.1)

  -- what holds of each of the last elements holds of one that isn't among the first
  pub later_got : (xs ys : List X) (i : ℕ) (x : X) → Each P ys → slice_get (xs ++ ys) i ≡ Some x → (slice_get xs i ≡ Some x) ⊎ ((length xs ≤ i) × P x)
  later_got [] ys i x h there = inr (omega arith, each_got ys i x h there)
  later_got (y ∷ xs) ys zero x h there = inl there
  later_got (y ∷ xs) ys (suc i) x h there = elim (later_got xs ys i x h there) [ inl first ↦ inl first | inr last ↦ inr (omega (arith, last.0), last.1) ]

  pub each_take_more : (xs : List X) (k : ℕ) (x : X) → k < length xs → x ≡ get_or xs k x → Each P (take k xs) → P x → Each P (take (k + 1) xs)
  each_take_more xs k x low is h here =
      subst (Each P) (sym (take_more xs k x low)) (each_append (take k xs) (get_or xs k x ∷ []) h (subst P is here, tt))

  pub any_first : (xs ys : List X) → AnyOf P xs → AnyOf P (xs ++ ys)
  any_first [] ys h = absurd h
  any_first (x ∷ xs) ys (inl h) = inl h
  any_first (x ∷ xs) ys (inr h) = inr (any_first xs ys h)

  pub any_last : (xs : List X) (y : X) → P y → AnyOf P (xs ++ y ∷ [])
  any_last [] y h = inl h
  any_last (x ∷ xs) y h = inr (any_last xs y h)

  pub any_weaker : (Q : X → Type 0) → ((x : X) → P x → Q x) → (xs : List X) → AnyOf P xs → AnyOf Q xs
  any_weaker Q f [] h = absurd h
  any_weaker Q f (x ∷ xs) (inl h) = inl (f x h)
  any_weaker Q f (x ∷ xs) (inr h) = inr (any_weaker Q f xs h)

pub some_at : {X : Type 0} (xs : List X) (i : ℕ) → i < length xs → (x : X) × (slice_get xs i ≡ Some x)
some_at [] i low = absurd (omega (arith, low))
some_at (x ∷ xs) i low = (get_or (x ∷ xs) i x, slice_get-get_or (x ∷ xs) i x low)

pub slice_first : {X : Type 0} (xs ys : List X) (i : ℕ) (x : X) → slice_get xs i ≡ Some x → slice_get (xs ++ ys) i ≡ Some x
slice_first [] ys i x is = cc
slice_first (y ∷ xs) ys zero x is = is
slice_first (y ∷ xs) ys (suc i) x is = slice_first xs ys i x is

pub slice_last : {X : Type 0} (xs : List X) (x : X) → slice_get (xs ++ x ∷ []) (length xs) ≡ Some x
slice_last [] x = refl
slice_last (y ∷ xs) x = slice_last xs x

pub got_same : {X : Type 0} (xs : List X) (i : ℕ) (x y : X) → slice_get xs i ≡ Some x → slice_get xs i ≡ Some y → x ≡ y
got_same xs i x y here there = cc

pub got_mapped : {X Y : Type 0} (f : X → Y) (xs : List X) (i : ℕ) (x : X) → slice_get xs i ≡ Some x → slice_get (map f xs) i ≡ Some (f x)
got_mapped f [] i x there = cc
got_mapped f (y ∷ xs) zero x there = let same : y ≡ x = cc in ap (λ z. Some (f z)) same
got_mapped f (y ∷ xs) (suc i) x there = got_mapped f xs i x there

-- the first elements of a list with more after it, and the next one
pub take_next : {X : Type 0} (old more new : List X) (k : ℕ) (x : X) → new ≡ old ++ more → slice_get old k ≡ Some x → take (k + 1) new ≡ take k old ++ x ∷ []
take_next old more new k x is there =
    let low : k < length old = slice_get_within old k x there in
    let here : slice_get new k ≡ Some x = ap (λ xs. slice_get xs k) is ∙ slice_first old more k x there in
    take_more new k x (slice_get_within new k x here)
    ∙ ap (λ y. take k new ++ y ∷ []) (get_or_from_slice_get new k x x here)
    ∙ ap (λ xs. take k xs ++ x ∷ []) is
    ∙ ap (λ xs. xs ++ x ∷ []) (take-append-le k old more (omega (arith, low)))

module _ {X Y : Type 0} (P : X → Y → Type 0) where
  pub pairs_push : (xs : List X) (ys : List Y) (x : X) (y : Y) → Pairs P xs ys → P x y → Pairs P (xs ++ x ∷ []) (ys ++ y ∷ [])
  pairs_push [] [] x y h here = (here, tt)
  pairs_push [] (z ∷ ys) x y h here = absurd h
  pairs_push (w ∷ xs) [] x y h here = absurd h
  pairs_push (w ∷ xs) (z ∷ ys) x y h here = (h.0, pairs_push xs ys x y h.1 here)

  pub pairs_weaker : (Q : X → Y → Type 0) → ((x : X) (y : Y) → P x y → Q x y) → (xs : List X) (ys : List Y) → Pairs P xs ys → Pairs Q xs ys
  pairs_weaker Q f [] [] h = tt
  pairs_weaker Q f [] (y ∷ ys) h = absurd h
  pairs_weaker Q f (x ∷ xs) [] h = absurd h
  pairs_weaker Q f (x ∷ xs) (y ∷ ys) h = (f x y h.0, pairs_weaker Q f xs ys h.1)

  pub pairs_at : (xs : List X) (ys : List Y) (i : ℕ) (x : X) → Pairs P xs ys → slice_get xs i ≡ Some x → (y : Y) × (slice_get ys i ≡ Some y) × P x y
  pairs_at [] ys i x h there = cc
  pairs_at (w ∷ xs) [] i x h there = absurd h
  pairs_at (w ∷ xs) (z ∷ ys) zero x h there = let same : w ≡ x = cc in (z, refl, subst (λ v. P v z) same h.0)
  pairs_at (w ∷ xs) (z ∷ ys) (suc i) x h there = pairs_at xs ys i x h.1 there

  pub pairs_length : (xs : List X) (ys : List Y) → Pairs P xs ys → length ys ≡ length xs
  pairs_length [] [] h = refl
  pairs_length [] (y ∷ ys) h = absurd h
  pairs_length (x ∷ xs) [] h = absurd h
  pairs_length (x ∷ xs) (y ∷ ys) h = ap suc (pairs_length xs ys h.1)

  -- what holds of each of the first holds, in its way, of each of the others
  pub pairs_each : (Q : X → Type 0) (R : Y → Type 0) → ((x : X) (y : Y) → P x y → Q x → R y) → (xs : List X) (ys : List Y) → Pairs P xs ys → Each Q xs → Each R ys
  pairs_each Q R f [] [] h g = tt
  pairs_each Q R f [] (y ∷ ys) h g = absurd h
  pairs_each Q R f (x ∷ xs) [] h g = absurd h
  pairs_each Q R f (x ∷ xs) (y ∷ ys) h g = (f x y h.0 g.0, pairs_each Q R f xs ys h.1 g.1)

  pub pairs_any : (Q : X → Type 0) (R : Y → Type 0) → ((x : X) (y : Y) → P x y → Q x → R y) → (xs : List X) (ys : List Y) → Pairs P xs ys → AnyOf Q xs → AnyOf R ys
  pairs_any Q R f [] [] h g = absurd g
  pairs_any Q R f [] (y ∷ ys) h g = absurd h
  pairs_any Q R f (x ∷ xs) [] h g = absurd h
  pairs_any Q R f (x ∷ xs) (y ∷ ys) h (inl g) = inl (f x y h.0 g)
  pairs_any Q R f (x ∷ xs) (y ∷ ys) h (inr g) = inr (pairs_any Q R f xs ys h.1 g)

-- ---- elements that differ

module _ {X : Type 0} where
  pub apart_push : (xs : List X) (y : X) → AreApart xs → Each (λ x. x ≢ y) xs → AreApart (xs ++ y ∷ [])
  apart_push [] y h new = (tt, tt)
  apart_push (x ∷ xs) y h new = (each_append (λ z. x ≢ z) xs (y ∷ []) h.0 (new.0, tt), apart_push xs y h.1 new.1)

  pub apart_same : (xs : List X) (i j : ℕ) (x : X) → AreApart xs → slice_get xs i ≡ Some x → slice_get xs j ≡ Some x → i ≡ j
  apart_same [] i j x h here there = cc
  apart_same (y ∷ xs) zero zero x h here there = refl
  apart_same (y ∷ xs) zero (suc j) x h here there = let same : y ≡ x = cc in absurd (each_got (λ z. y ≢ z) xs j x h.0 there same)
  apart_same (y ∷ xs) (suc i) zero x h here there = let same : y ≡ x = cc in absurd (each_got (λ z. y ≢ z) xs i x h.0 here same)
  apart_same (y ∷ xs) (suc i) (suc j) x h here there = ap suc (apart_same xs i j x h.1 here there)
