-- Free. A position in a span is within it.
use Rattle.std.proofs.Common.{◌≡◌, ℕ, ◌-◌, ◌<◌, Bool, true, false, cond, Some, None, refl, ap, subst}
use Rattle.std.specs.Prelude.{nat_lt, unwrap_or}
use Rattle.std.proofs.lemmas.Bool.{ltb-true}
use Rattle.asm_state.specs.code.ConsecutiveCodes.{code_position}

pub place_within : (low count c i : ℕ) → code_position low count c ≡ Some i → i < count
place_within low count c i = by_tests (nat_lt c low) (nat_lt (c - low) count) refl refl
  where
    by_tests : (b b' : Bool) → nat_lt c low ≡ b → nat_lt (c - low) count ≡ b' → cond b None (cond b' (Some (c - low)) None) ≡ Some i → i < count
    by_tests true b' e g h = absurd cc
    by_tests false false e g h = absurd cc
    by_tests false true e g h = subst (λ n. n < count) (ap (λ o. unwrap_or o 0) h) (ltb-true (c - low) count g)
