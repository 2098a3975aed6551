-- Free. Searches, one after another.
use Rattle.std.proofs.Common.{◌≡◌, ◌⊎◌, ℕ, true, false, cond, [], ◌∷◌, Option, Some, None, refl, ap, subst, inl, inr, arith}
use Rattle.asm_check.specs.Faults.{IsUpTo}
use Rattle.asm_check.specs.code.LeastFaults.{IsLeastWith, IsFoundOrLess, is_at_most, least_after}
use Rattle.asm_check.proofs.LeastOfTwo.{upto_then, in_order, out_of_order}

same_pair : (at number at' number' : ℕ) → ◌≡◌ {A = Option (ℕ × ℕ)} (Some (at, number)) (Some (at', number')) → (at ≡ at') × (number ≡ number')
same_pair at number at' number' e = (ap first_of e, ap second_of e)
  where
    first_of : Option (ℕ × ℕ) → ℕ
    first_of None = 0
    first_of (Some p) = p.0

    second_of : Option (ℕ × ℕ) → ℕ
    second_of None = 0
    second_of (Some p) = p.1

itself : (at number : ℕ) → IsUpTo at number at number
itself at number = inr (refl, omega arith)

-- what is found covers itself
pub covers_itself : (found : Option (ℕ × ℕ)) (at number : ℕ) → found ≡ Some (at, number) → IsFoundOrLess found at number
covers_itself found at number e = ((at, number), e, itself at number)

pub covered_on : (before after : Option (ℕ × ℕ)) → ((at number : ℕ) → before ≡ Some (at, number) → IsFoundOrLess after at number)
    → (at number : ℕ) → IsFoundOrLess before at number → IsFoundOrLess after at number
covered_on before after kept at number ((a, n), e, up) =
    let it = kept a n e in
    (it.0, it.1, upto_then it.0.0 it.0.1 a n at number it.2 up)

module _ (P Q : ℕ → ℕ → Type 0) where
  pub soonest_same : ((at number : ℕ) → P at number → Q at number) → ((at number : ℕ) → Q at number → P at number)
      → (before after : Option (ℕ × ℕ)) → IsLeastWith P before after → IsLeastWith Q before after
  soonest_same there back before after s = record {
    from = λ at number e. elim (s.from at number e) [ inl old ↦ inl old | inr p ↦ inr (there at number p) ];
    kept = s.kept;
    covers = λ at number q. s.covers at number (back at number q);
  }

  pub soonest_both : (before between after : Option (ℕ × ℕ)) → IsLeastWith P before between → IsLeastWith Q between after
      → IsLeastWith (λ at number. P at number ⊎ Q at number) before after
  soonest_both before between after s t = record {
    from = λ at number e. elim (t.from at number e) [ inl mid ↦ (elim (s.from at number mid) [ inl old ↦ inl old | inr p ↦ inr (inl p) ]) | inr q ↦ inr (inr q) ];
    kept = λ at number e. covered_on between after t.kept at number (s.kept at number e);
    covers = λ at number pq. elim pq [ inl p ↦ covered_on between after t.kept at number (s.covers at number p) | inr q ↦ t.covers at number q ];
  }

-- if there is nothing new, nothing changes
pub soonest_none : (P : ℕ → ℕ → Type 0) (found : Option (ℕ × ℕ)) → ((at number : ℕ) → P at number → IsFoundOrLess found at number) → IsLeastWith P found found
soonest_none P found covered = record {
  from = λ at number e. inl e;
  kept = λ at number e. covers_itself found at number e;
  covers = covered;
}

-- one fault is met
pub soonest_noted : (found : Option (ℕ × ℕ)) (a n : ℕ) → IsLeastWith (λ at number. (a ≡ at) × (n ≡ number)) found (least_after found ((a, n) ∷ []))
soonest_noted None a n = record {
  from = λ at number e. inr (same_pair a n at number e);
  kept = λ at number e. cc;
  covers = λ at number p. ((a, n), refl, subst (λ x. IsUpTo a n x number) p.0 (subst (λ y. IsUpTo a n a y) p.1 (itself a n)));
}
soonest_noted (Some (b, m)) a n =
    elim (is_at_most (b, m) (a, n)) as (λ it. is_at_most (b, m) (a, n) ≡ it → IsLeastWith (λ at number. (a ≡ at) × (n ≡ number)) (Some (b, m)) (cond it (Some (b, m)) (Some (a, n)))) [
      | true ↦ λ e. record {
        from = λ at number is. inl is;
        kept = λ at number is. covers_itself (Some (b, m)) at number is;
        covers = λ at number p. ((b, m), refl, subst (λ x. IsUpTo b m x number) p.0 (subst (λ y. IsUpTo b m a y) p.1 (in_order b m a n e)));
      }
      | false ↦ λ e. record {
        from = λ at number is. inr (same_pair a n at number is);
        kept = λ at number is. let it = same_pair b m at number is in ((a, n), refl, subst (λ x. IsUpTo a n x number) it.0 (subst (λ y. IsUpTo a n b y) it.1 (out_of_order b m a n e)));
        covers = λ at number p. ((a, n), refl, subst (λ x. IsUpTo a n x number) p.0 (subst (λ y. IsUpTo a n a y) p.1 (itself a n)));
      }
    ] refl
