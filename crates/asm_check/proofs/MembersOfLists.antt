-- Free. What lists that are made of others contain.
use Rattle.std.proofs.Common.{◌≡◌, ℕ, Bool, true, false, cond, List, [], ◌∷◌, ◌++◌, refl, sym, ap, subst, inl, inr, append_assoc, append-nil}
use Rattle.std.specs.Prelude.{Contains}
use Rattle.std.proofs.lemmas.Bool.{cond-true, cond-false}
use Rattle.std.proofs.lemmas.List.Elements.{Contains-append_left, Contains-append_right, Contains-append_cases}
use Rattle.asm_state.proofs.Lists.{Contains-cons_cases, Contains-first, Contains-none}

-- a list has this fault
abbrev pub IsListed : List (ℕ × ℕ) → (at number : ℕ) → Type 0
IsListed fs at number = Contains {X = ℕ × ℕ} fs (at, number)

pub the_only : {X : Type 0} (x y : X) → Contains (x ∷ []) y → x ≡ y
the_only x y c = elim (Contains-cons_cases x [] y c) [ inl e ↦ e | inr bad ↦ absurd (Contains-none y bad) ]

pub in_then : {X : Type 0} (b : Bool) (xs ys : List X) (x : X) → b ≡ true → Contains xs x → Contains (cond b xs ys) x
in_then b xs ys x e c = subst (λ zs. Contains zs x) (sym (cond-true b xs ys e)) c

pub in_else : {X : Type 0} (b : Bool) (xs ys : List X) (x : X) → b ≡ false → Contains ys x → Contains (cond b xs ys) x
in_else b xs ys x e c = subst (λ zs. Contains zs x) (sym (cond-false b xs ys e)) c

-- An element that passes the test after those that are before it.
pub record IsMet {X : Type 0} (test : List X → X → Bool) (offset : X → ℕ) (xs : List X) (at : ℕ) : Type 0 where
  pub before : List X
  pub it : X
  pub after : List X
  pub parts : xs ≡ before ++ it ∷ after
  pub holds : test before it ≡ true
  pub is_at : offset it ≡ at

-- The walk lists the offsets of such elements. `refl` shows its two clauses.
module _ {X : Type 0} (test : List X → X → Bool) (offset : X → ℕ) (number : ℕ) (walk : List X → List X → List (ℕ × ℕ))
    (ends : (before : List X) → walk before [] ≡ [])
    (goes_on : (before : List X) (x : X) (xs : List X)
    → walk before (x ∷ xs) ≡ cond (test before x) ((offset x, number) ∷ []) [] ++ walk (before ++ x ∷ []) xs) where
  pub walk_sound : (done xs : List X) (at n : ℕ) → IsListed (walk done xs) at n → (n ≡ number) × IsMet test offset (done ++ xs) at
  walk_sound done [] at n c = absurd (Contains-none (at, n) (subst (λ fs. IsListed fs at n) (ends done) c))
  walk_sound done (x ∷ xs) at n c =
      elim (Contains-append_cases (cond (test done x) ((offset x, number) ∷ []) []) (walk (done ++ x ∷ []) xs) (at, n)
      (subst (λ fs. IsListed fs at n) (goes_on done x xs) c)) [
        | inl own ↦ this (test done x) refl own
        | inr rest ↦
            let it = walk_sound (done ++ x ∷ []) xs at n rest in
            (it.0, subst (λ ys. IsMet test offset ys at) (append_assoc done (x ∷ []) xs) it.1)
      ]
    where
      this : (b : Bool) → test done x ≡ b → IsListed (cond b ((offset x, number) ∷ []) []) at n → (n ≡ number) × IsMet test offset (done ++ x ∷ xs) at
      this true e own =
          let same = the_only (offset x, number) (at, n) own in
          (ap (λ f. f.1) (sym same), record { before = done; it = x; after = xs; parts = refl; holds = e; is_at = ap (λ f. f.0) same })
      this false e own = absurd (Contains-none (at, n) own)

  pub walk_complete : (done middle : List X) (x : X) (after : List X) → test (done ++ middle) x ≡ true → IsListed (walk done (middle ++ x ∷ after)) (offset x) number
  walk_complete done [] x after holds =
      subst (λ fs. IsListed fs (offset x) number) (sym (goes_on done x after))
      (Contains-append_left (cond (test done x) ((offset x, number) ∷ []) []) (walk (done ++ x ∷ []) after) (offset x, number)
      (in_then (test done x) ((offset x, number) ∷ []) [] (offset x, number) (subst (λ ys. test ys x ≡ true) (append-nil done) holds) (Contains-first (offset x, number) [])))
  walk_complete done (y ∷ middle) x after holds =
      subst (λ fs. IsListed fs (offset x) number) (sym (goes_on done y (middle ++ x ∷ after)))
      (Contains-append_right (cond (test done y) ((offset y, number) ∷ []) []) (walk (done ++ y ∷ []) (middle ++ x ∷ after)) (offset x, number)
      (walk_complete (done ++ y ∷ []) middle x after (subst (λ ys. test ys x ≡ true) (sym (append_assoc done (y ∷ []) middle)) holds)))
