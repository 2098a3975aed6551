-- Free. The least faults of two sets give the least of both.
use Rattle.std.proofs.Common.{◌≡◌, ◌⊎◌, ℕ, true, false, cond, Option, Some, None, refl, inl, inr, arith}
use Rattle.std.proofs.lemmas.Bool.{cases_lt}
use Rattle.asm_syntax.specs.SourceTree.{Spec}
use Rattle.asm_check.specs.Faults.{IsUpTo, IsFault, IsLeastFault, IsWellFormed}
use Rattle.asm_check.specs.code.LeastFaults.{IsLeastOf, is_at_most, lesser_fault}

pub upto_then : (a n b m c k : ℕ) → IsUpTo a n b m → IsUpTo b m c k → IsUpTo a n c k
upto_then a n b m c k (inl h) (inl i) = inl (omega arith)
upto_then a n b m c k (inl h) (inr i) = let e = i.0 in inl (omega (arith, e))
upto_then a n b m c k (inr h) (inl i) = let e = h.0 in inl (omega (arith, e))
upto_then a n b m c k (inr h) (inr i) = let e = h.0 in let e' = i.0 in let below = h.1 in let above = i.1 in inr (omega (arith, e, e'), omega (arith, below, above))

pub in_order : (a n b m : ℕ) → is_at_most (a, n) (b, m) ≡ true → IsUpTo a n b m
in_order a n b m h =
    elim (cases_lt a b) [
      | inl below ↦ inl below
      | inr above ↦ elim (cases_lt b a) [
        | inl over ↦ absurd (grind (arith, h, over))
        | inr same ↦ inr (omega (arith, above, same), grind (arith, h, above, same))
      ]
    ]

pub out_of_order : (a n b m : ℕ) → is_at_most (a, n) (b, m) ≡ false → IsUpTo b m a n
out_of_order a n b m h =
    elim (cases_lt b a) [
      | inl below ↦ inl below
      | inr above ↦ elim (cases_lt a b) [
        | inl over ↦ absurd (grind (arith, h, over))
        | inr same ↦ inr (omega (arith, above, same), grind (arith, h, above, same))
      ]
    ]

module _ (P Q : ℕ → ℕ → Type 0) where
  abbrev Both : ℕ → ℕ → Type 0
  Both at number = P at number ⊎ Q at number

  pub soonest_of_both : (found other : Option (ℕ × ℕ)) → IsLeastOf P found → IsLeastOf Q other → IsLeastOf Both (lesser_fault found other)
  soonest_of_both None None none nothing = λ at number it. elim it [ inl p ↦ none at number p | inr q ↦ nothing at number q ]
  soonest_of_both None (Some g) none (q, least) = (inr q, λ at number it. elim it [ inl p ↦ absurd (none at number p) | inr q' ↦ least at number q' ])
  soonest_of_both (Some f) None (p, least) none = (inl p, λ at number it. elim it [ inl p' ↦ least at number p' | inr q ↦ absurd (none at number q) ])
  soonest_of_both (Some (a, n)) (Some (b, m)) (p, first) (q, second) =
      elim (is_at_most (a, n) (b, m)) as (λ it. is_at_most (a, n) (b, m) ≡ it → IsLeastOf Both (cond it (Some (a, n)) (Some (b, m)))) [
        | true ↦ λ e. (inl p, λ at number it. elim it [ inl p' ↦ first at number p' | inr q' ↦ upto_then a n b m at number (in_order a n b m e) (second at number q') ])
        | false ↦ λ e. (inr q, λ at number it. elim it [ inl p' ↦ upto_then b m a n at number (out_of_order a n b m e) (first at number p') | inr q' ↦ second at number q' ])
      ] refl

-- what the search has found of all faults says what the checker returns
pub least_from_soonest : (spec : Spec) (at number : ℕ) → IsLeastOf (IsFault spec) (Some (at, number)) → IsLeastFault spec at number
least_from_soonest spec at number (fault, least) = record { fault = fault; least = least }

pub well_formed_from_soonest : (spec : Spec) → IsLeastOf (IsFault spec) None → IsWellFormed spec
well_formed_from_soonest spec none = none
