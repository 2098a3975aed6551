-- Free. What a search has found once it has met all faults.
--     soonest_of_list     of a list of faults
--     soonest_with        and of others
use Rattle.std.proofs.Common.{◌≡◌, ◌⊎◌, ℕ, List, [], ◌∷◌, Option, Some, None, refl, subst, inl, inr, arith}
use Rattle.std.specs.Prelude.{Contains}
use Rattle.asm_state.proofs.Lists.{Contains-cons_cases, Contains-first, Contains-later, Contains-none}
use Rattle.asm_check.specs.Faults.{IsUpTo}
use Rattle.asm_check.specs.code.LeastFaults.{IsLeastOf, IsLeastWith, IsFoundOrLess, lesser_fault, least_after}
use Rattle.asm_check.proofs.MembersOfLists.{IsListed}
use Rattle.asm_check.proofs.LeastOfTwo.{upto_then, soonest_of_both}

-- of the same faults the same is the least
pub soonest_same : (P Q : ℕ → ℕ → Type 0) (found : Option (ℕ × ℕ))
    → ((at n : ℕ) → P at n → Q at n) → ((at n : ℕ) → Q at n → P at n) → IsLeastOf P found → IsLeastOf Q found
soonest_same P Q None there_too back none = λ at n q. none at n (back at n q)
soonest_same P Q (Some f) there_too back (p, least) = (there_too f.0 f.1 p, λ at n q. least at n (back at n q))

abbrev IsThat : ℕ × ℕ → ℕ → ℕ → Type 0
IsThat f at n = f ≡ (at, n)

one_is_soonest : (f : ℕ × ℕ) → IsLeastOf (IsThat f) (Some f)
one_is_soonest f = (refl, λ at n e. subst (λ g. IsUpTo f.0 f.1 g.0 g.1) e (inr (refl, omega arith)))

-- what is found after a list of faults is the least of it and of those before
pub soonest_noted : (P : ℕ → ℕ → Type 0) (found : Option (ℕ × ℕ)) (fs : List (ℕ × ℕ)) → IsLeastOf P found → IsLeastOf (λ at n. P at n ⊎ IsListed fs at n) (least_after found fs)
soonest_noted P found [] it = soonest_same P (λ at n. P at n ⊎ IsListed [] at n) found (λ at n p. inl p) (λ at n o. elim o [ inl p ↦ p | inr bad ↦ absurd (Contains-none (at, n) bad) ]) it
soonest_noted P found (f ∷ fs) it =
    soonest_same (λ at n. (P at n ⊎ IsThat f at n) ⊎ IsListed fs at n) (λ at n. P at n ⊎ IsListed (f ∷ fs) at n) (least_after found (f ∷ fs))
    (λ at n o. elim o [
      | inl o' ↦ elim o' [ inl p ↦ inl p | inr e ↦ inr (subst (Contains (f ∷ fs)) e (Contains-first f fs)) ]
      | inr rest ↦ inr (Contains-later f fs (at, n) rest)
    ])
    (λ at n o. elim o [
      | inl p ↦ inl (inl p)
      | inr c ↦ elim (Contains-cons_cases f fs (at, n) c) [ inl e ↦ inl (inr e) | inr rest ↦ inr rest ]
    ])
    (soonest_noted (λ at n. P at n ⊎ IsThat f at n) (lesser_fault found (Some f)) fs (soonest_of_both P (IsThat f) found (Some f) it (one_is_soonest f)))

pub soonest_of_list : (P : ℕ → ℕ → Type 0) (fs : List (ℕ × ℕ))
    → ((at n : ℕ) → IsListed fs at n → P at n) → ((at n : ℕ) → P at n → IsListed fs at n) → IsLeastOf P (least_after None fs)
soonest_of_list P fs sound complete =
    soonest_same (λ at n. ⊥ ⊎ IsListed fs at n) P (least_after None fs) (λ at n o. elim o [ inl bad ↦ absurd bad | inr c ↦ sound at n c ]) (λ at n p. inr (complete at n p))
    (soonest_noted (λ at n. ⊥) None fs (λ at n bad. bad))

module _ (P Q : ℕ → ℕ → Type 0) where
  -- if something was found, or is to be, something is
  not_nothing : {A : Type 0} (at n : ℕ) → IsFoundOrLess None at n → A
  not_nothing at n (f, e, upto) = cc

  of_covered : (g : ℕ × ℕ) (at n : ℕ) → IsFoundOrLess (Some g) at n → IsUpTo g.0 g.1 at n
  of_covered g at n (f, e, upto) = let same : f ≡ g = cc in subst (λ h. IsUpTo h.0 h.1 at n) same upto

  kept_before : (before after : Option (ℕ × ℕ)) → IsLeastOf Q before → IsLeastWith P before after → (at n : ℕ) → Q at n → IsFoundOrLess after at n
  kept_before None after none it at n q = absurd (none at n q)
  kept_before (Some f) after first it at n q =
      let kept = it.kept f.0 f.1 refl in
      (kept.0, kept.1, upto_then kept.0.0 kept.0.1 f.0 f.1 at n kept.2 (first.1 at n q))

  covered_after : (before after : Option (ℕ × ℕ)) → IsLeastOf Q before → IsLeastWith P before after → (at n : ℕ) → Q at n ⊎ P at n → IsFoundOrLess after at n
  covered_after before after first it at n o = elim o [ inl q ↦ kept_before before after first it at n q | inr p ↦ it.covers at n p ]

  found_before : (before : Option (ℕ × ℕ)) → IsLeastOf Q before → (at n : ℕ) → before ≡ Some (at, n) → Q at n
  found_before None none at n e = cc
  found_before (Some f) (q, least) at n e = let same : f ≡ (at, n) = cc in subst (λ g. Q g.0 g.1) same q

  pub soonest_with : (before after : Option (ℕ × ℕ)) → IsLeastOf Q before → IsLeastWith P before after → IsLeastOf (λ at n. Q at n ⊎ P at n) after
  soonest_with before None first it = λ at n o. not_nothing at n (covered_after before None first it at n o)
  soonest_with before (Some g) first it = (
    elim (it.from g.0 g.1 refl) [ inl e ↦ inl (found_before before first g.0 g.1 e) | inr p ↦ inr p ],
    λ at n o. of_covered g at n (covered_after before (Some g) first it at n o),
  )
