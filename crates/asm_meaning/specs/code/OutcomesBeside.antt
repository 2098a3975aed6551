-- Bridge to the code. Outcomes beside each other, as one.
--     counting n o         the outcome o, with n more instances
--     all_both os          what outcomes are beside each other
--     union Us             the union of sets
--     IsUnion U os         U is the union of the sets of outcomes that each give one
--     IsFirstOf p os       one of the outcomes is exhausted at p, and none at a lesser path
--     IsMadeOf o n os      an outcome that is made of others, with n instances of its own
--     GroupingLaws         outcomes beside each other are made of them so; of none, one, and two
--                          lists one after the other
use Rattle.std.specs.Prelude.{◌≡◌, ◌↔◌, ℕ, ◌+◌, List, [], ◌∷◌, ◌++◌, map, sum, All}
use Rattle.std.specs.List.{Any}
use Rattle.asm_state.specs.Updates.{UpdateSet, none, together}
use Rattle.asm_meaning.specs.Does.{Outcome, nothing, both}
use Rattle.asm_meaning.specs.ExhaustedLaws.{IsFrom}
use Rattle.asm_meaning.specs.Yields.{Path, Gives, Exhausted}

abbrev pub counting : ℕ → Outcome → Outcome
counting n o = record { result = o.result; instances = n + o.instances }

abbrev pub all_both : List Outcome → Outcome
all_both [] = nothing
all_both (o ∷ os) = both o (all_both os)

abbrev pub union : List UpdateSet → UpdateSet
union [] = none
union (U ∷ Us) = together U (union Us)

pub record IsUnion (U : UpdateSet) (os : List Outcome) : Type 0 where
  pub sets : List UpdateSet
  pub give : map (λ (o : Outcome). o.result) os ≡ map Gives sets
  pub united : U ≡ union sets

pub record IsFirstOf (p : Path) (os : List Outcome) : Type 0 where
  pub is_one : Any (λ (o : Outcome). o.result ≡ Exhausted p) os
  pub is_least : All (λ (o : Outcome). IsFrom p o.result) os

pub record IsMadeOf (o : Outcome) (n : ℕ) (os : List Outcome) : Type 0 where
  pub gives : (U : UpdateSet) → (o.result ≡ Gives U) ↔ IsUnion U os
  pub exhausted : (p : Path) → (o.result ≡ Exhausted p) ↔ IsFirstOf p os
  -- if one of them is exhausted, at whatever path, there is a first such path
  pub is_exhausted : (q : Path) → Any (λ (it : Outcome). it.result ≡ Exhausted q) os → (p : Path) × (o.result ≡ Exhausted p)
  pub instances : o.instances ≡ n + sum (map (λ (it : Outcome). it.instances) os)

pub record GroupingLaws : Type 0 where
  pub of_outcomes : (o : Outcome) (n : ℕ) (os : List Outcome) → o ≡ counting n (all_both os) → IsMadeOf o n os
  pub of_none : all_both [] ≡ nothing
  pub of_one : (o : Outcome) → all_both (o ∷ []) ≡ o
  pub of_appended : (os qs : List Outcome) → all_both (os ++ qs) ≡ both (all_both os) (all_both qs)
