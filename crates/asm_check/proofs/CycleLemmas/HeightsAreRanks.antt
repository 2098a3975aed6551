-- Free. If no way is longer than the greatest rank, heights are ranks.
use Rattle.std.proofs.Common.{◌≡◌, ℕ, zero, suc, ◌<◌, ◌≤◌, max, List, [], ◌∷◌, ◌++◌, map, ap, sym, subst, arith, inl, inr}
use Rattle.std.specs.Prelude.{Contains}
use Rattle.std.proofs.lemmas.Bool.{cases_lt}
use Rattle.asm_state.proofs.Lists.{Contains-cons_cases, Contains-first, Contains-later, Contains-map, Contains-none}
use Rattle.asm_check.specs.declared.cycles.step_faults.TheConstants.{MAX_RANK}
use Rattle.asm_check.specs.Names.{Text}
use Rattle.asm_check.specs.CallGraph.{greatest, BeginsPath, height}

pub split : {X : Type 0} (xs : List X) (x : X) → Contains xs x → (before after : List X) × (xs ≡ before ++ x ∷ after)
split [] x c = absurd (Contains-none x c)
split (y ∷ xs) x c =
    elim (Contains-cons_cases y xs x c) [
      | inl e ↦ ([], xs, ap (λ z. z ∷ xs) e)
      | inr rest ↦ let it = split xs x rest in (y ∷ it.0, it.1, ap (λ zs. y ∷ zs) it.2)
    ]

max_left : (m n : ℕ) → m ≤ max m n
max_left m n = omega arith

max_right : (m n : ℕ) → n ≤ max m n
max_right m n = omega arith

greatest_above : (ns : List ℕ) (m : ℕ) → Contains ns m → m ≤ greatest ns
greatest_above [] m c = absurd (Contains-none m c)
greatest_above (n ∷ ns) m c =
    elim (Contains-cons_cases n ns m c) [
      | inl e ↦ subst (λ k. k ≤ max n (greatest ns)) e (max_left n (greatest ns))
      | inr rest ↦ let below = greatest_above ns m rest in let right = max_right n (greatest ns) in omega (arith, below, right)
    ]

attained : (h : Text → ℕ) (xs : List Text) → 0 < greatest (map h xs) → (g : Text) × Contains xs g × (greatest (map h xs) ≡ h g)
attained h [] some = absurd (omega arith)
attained h (x ∷ xs) some =
    elim (cases_lt (h x) (greatest (map h xs))) [
      | inl below ↦
          let it = attained h xs (omega arith) in
          let rest : greatest (map h xs) ≡ h it.0 = it.2 in
          (it.0, Contains-later x xs it.0 it.1, omega (arith, below, rest))
      | inr above ↦ (x, Contains-first x xs, omega (arith, above))
    ]

-- each height is at most the greatest rank, and falls with each step
abbrev pub AreRanks : (Text → List Text) → (Text → ℕ) → Type 0
AreRanks next rank = ((f : Text) → rank f ≤ MAX_RANK) × ((f g : Text) → Contains (next f) g → rank g < rank f)

module _ (next : Text → List Text) where
  pub way : (n : ℕ) (f : Text) → BeginsPath next (height next n f) f
  unfolding height
  way zero f = tt
  way (suc n) f =
      let top = greatest (map (λ g. suc (height next n g)) (next f)) in
      elim (cases_lt 0 top) [
        | inl some ↦
            let it = attained (λ g. suc (height next n g)) (next f) some in
            subst (λ k. BeginsPath next k f) (sym it.2) (it.0, it.1, way n it.0)
        | inr none ↦ let is_zero : 0 ≡ top = omega (arith, none) in subst (λ k. BeginsPath next k f) is_zero tt
      ]

  pub high : (n k : ℕ) (f : Text) → k ≤ n → BeginsPath next k f → k ≤ height next n f
  unfolding height
  high n zero f h w = omega arith
  high zero (suc k) f h w = absurd (omega arith)
  high (suc n) (suc k) f h w =
      let below = high n k w.0 (omega arith) w.2 in
      let among = greatest_above (map (λ g. suc (height next n g)) (next f)) (suc (height next n w.0)) (Contains-map (λ g. suc (height next n g)) (next f) w.0 w.1) in
      omega (arith, below, among)

  pub within : (n : ℕ) (f : Text) → height next n f ≤ n
  unfolding height
  within zero f = omega arith
  within (suc n) f =
      elim (cases_lt 0 (greatest (map (λ g. suc (height next n g)) (next f)))) [
        | inl some ↦
            let it = attained (λ g. suc (height next n g)) (next f) some in
            let top : greatest (map (λ g. suc (height next n g)) (next f)) ≡ suc (height next n it.0) = it.2 in
            let below = within n it.0 in
            omega (arith, top, below)
        | inr none ↦ omega (arith, none)
      ]

  module _ (short : (f : Text) → ¬ (BeginsPath next (suc MAX_RANK) f)) where
    low : (f : Text) → height next (suc MAX_RANK) f ≤ MAX_RANK
    low f =
        elim (cases_lt (height next (suc MAX_RANK) f) (suc MAX_RANK)) [
          | inl below ↦ omega (arith, below)
          | inr above ↦
              let up = within (suc MAX_RANK) f in
              let is : height next (suc MAX_RANK) f ≡ (suc MAX_RANK) = omega (arith, above, up) in
              absurd (short f (subst (λ k. BeginsPath next k f) is (way (suc MAX_RANK) f)))
        ]

    pub heights_are_ranks : AreRanks next (height next (suc MAX_RANK))
    heights_are_ranks =
        (low, λ f g c. let below = low g in let up = high (suc MAX_RANK) (suc (height next (suc MAX_RANK) g)) f (omega (arith, below)) (g, c, way (suc MAX_RANK) g) in omega (arith, up))
