-- Free. All items of a list with one more, and of one alone; and what holds of both sides of a
-- test.
use Rattle.std.proofs.Common.{◌≡◌, Bool, true, false, cond, List, [], ◌∷◌, ◌++◌, All, refl, sym, subst}
use Rattle.std.proofs.lemmas.List.Elements.{All-push, All-nil}

pub by_test : {X : Type 0} (P : X → Type 0) (b : Bool) (x y : X) → (b ≡ true → P x) → (b ≡ false → P y) → P (cond b x y)
by_test P true x y f g = f refl
by_test P false x y f g = g refl

module _ {X : Type 0} where
  pub all_more : (P : X → Type 0) (xs ys : List X) (x : X) → ys ≡ xs ++ x ∷ [] → All P xs → P x → All P ys
  all_more P xs ys x is all one = subst (All P) (sym is) (All-push P xs x all one)

  pub all_alone : (P : X → Type 0) (xs ys : List X) (x : X) → xs ≡ [] → ys ≡ xs ++ x ∷ [] → P x → All P ys
  all_alone P xs ys x none is one = all_more P xs ys x is (subst (All P) (sym none) (All-nil P)) one
