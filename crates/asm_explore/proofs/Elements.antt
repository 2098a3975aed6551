-- Free. What holds of each, or of some, of a list's elements.
use Rattle.std.proofs.Common.{◌≡◌, ℕ, zero, suc, ◌+◌, ◌<◌, List, [], ◌∷◌, ◌++◌, length, take, get_or, ◌⊎◌, inl, inr, refl, sym, subst, arith}
use Rattle.std.proofs.lemmas.List.{take_more}
use Rattle.asm_explore.specs.ListElements.{Each, AnyOf}

module _ {X : Type 0} (P : X → Type 0) where
  pub each_append : (xs ys : List X) → Each P xs → Each P ys → Each P (xs ++ ys)
  each_append [] ys h g = g
  each_append (x ∷ xs) ys h g = (h.0, each_append xs ys h.1 g)

  pub each_first : (xs ys : List X) → Each P (xs ++ ys) → Each P xs
  each_first [] ys h = tt
  each_first (x ∷ xs) ys h = (h.0, each_first xs ys h.1)

  pub each_last : (xs ys : List X) → Each P (xs ++ ys) → Each P ys
  each_last [] ys h = h
  each_last (x ∷ xs) ys h = each_last xs ys h.1

  pub each_at : (xs : List X) (i : ℕ) (x : X) → i < length xs → x ≡ get_or xs i x → Each P xs → P x
  each_at [] i x low is h = absurd (omega (arith, low))
  each_at (y ∷ ys) zero x low is h = subst P (sym is) h.0
  each_at (y ∷ ys) (suc i) x low is h = each_at ys i x (omega (arith, low)) is h.1

  pub each_take_more : (xs : List X) (i : ℕ) (x : X) → i < length xs → x ≡ get_or xs i x → Each P (take (i + 1) xs) → Each P (take i xs) × P x
  each_take_more xs i x low is h =
      let split : Each P (take i xs ++ get_or xs i x ∷ []) = subst (Each P) (take_more xs i x low) h in
      (each_first (take i xs) (get_or xs i x ∷ []) split, subst P (sym is) (each_last (take i xs) (get_or xs i x ∷ []) split).0)

  pub each_weaker : (Q : X → Type 0) → ((x : X) → P x → Q x) → (xs : List X) → Each P xs → Each Q xs
  each_weaker Q f [] h = tt
  each_weaker Q f (x ∷ xs) h = (f x h.0, each_weaker Q f xs h.1)

  pub any_first : (xs ys : List X) → AnyOf P xs → AnyOf P (xs ++ ys)
  any_first [] ys h = absurd h
  any_first (x ∷ xs) ys (inl h) = inl h
  any_first (x ∷ xs) ys (inr h) = inr (any_first xs ys h)

  pub any_last : (xs ys : List X) → AnyOf P ys → AnyOf P (xs ++ ys)
  any_last [] ys h = h
  any_last (x ∷ xs) ys h = inr (any_last xs ys h)

  pub any_weaker : (Q : X → Type 0) → ((x : X) → P x → Q x) → (xs : List X) → AnyOf P xs → AnyOf Q xs
  any_weaker Q f [] h = absurd h
  any_weaker Q f (x ∷ xs) (inl h) = inl (f x h)
  any_weaker Q f (x ∷ xs) (inr h) = inr (any_weaker Q f xs h)

  pub any_at : (xs : List X) (i : ℕ) (x : X) → i < length xs → x ≡ get_or xs i x → P x → AnyOf P xs
  any_at [] i x low is h = absurd (omega (arith, low))
  any_at (y ∷ ys) zero x low is h = inl (subst P is h)
  any_at (y ∷ ys) (suc i) x low is h = inr (any_at ys i x (omega (arith, low)) is h)

  later : (x : X) (xs ys : List X) → AnyOf P xs ⊎ AnyOf P ys → AnyOf P (x ∷ xs) ⊎ AnyOf P ys
  later x xs ys (inl h) = inl (inr h)
  later x xs ys (inr h) = inr h

  pub any_split : (xs ys : List X) → AnyOf P (xs ++ ys) → AnyOf P xs ⊎ AnyOf P ys
  any_split [] ys h = inr h
  any_split (x ∷ xs) ys (inl h) = inl (inl h)
  any_split (x ∷ xs) ys (inr h) = later x xs ys (any_split xs ys h)

  the_one : (xs : List X) (x y : X) → x ≡ y → AnyOf P xs ⊎ AnyOf P (y ∷ []) → AnyOf P xs ⊎ P x
  the_one xs x y is (inl h) = inl h
  the_one xs x y is (inr (inl h)) = inr (subst P (sym is) h)
  the_one xs x y is (inr (inr h)) = absurd h

  pub any_take_more : (xs : List X) (i : ℕ) (x : X) → i < length xs → x ≡ get_or xs i x → AnyOf P (take (i + 1) xs) → AnyOf P (take i xs) ⊎ P x
  any_take_more xs i x low is h =
      the_one (take i xs) x (get_or xs i x) is (any_split (take i xs) (get_or xs i x ∷ []) (subst (AnyOf P) (take_more xs i x low) h))

-- ---- each of a list is among it

pub each_among : {X : Type 0} (P : X → Type 0) (xs : List X) (x : X) → AnyOf (λ y. y ≡ x) xs → Each P xs → P x
each_among P [] x there h = absurd there
each_among P (y ∷ ys) x (inl is) h = subst P is h.0
each_among P (y ∷ ys) x (inr there) h = each_among P ys x there h.1

pub each_self : {X : Type 0} (xs : List X) → Each (λ x. AnyOf (λ y. y ≡ x) xs) xs
each_self [] = tt
each_self (x ∷ xs) = (inl refl, each_weaker (λ z. AnyOf (λ y. y ≡ z) xs) (λ z. AnyOf (λ y. y ≡ z) (x ∷ xs)) (λ z h. inr h) xs (each_self xs))
