-- Free. Quotients and remainders.
use Rattle.std.proofs.Common.{◌≡◌, ◌≢◌, ℕ, zero, suc, ◌+◌, ◌*◌, ◌/◌, ◌%◌, ◌<◌, ℤ, pos, negsuc, ◌*ℤ◌, neg_ℤ, refl, arith}
use Rattle.std.specs.Int.{int_div_euclid, int_rem_euclid}
use Rattle.std.proofs.lemmas.Int.{ints}
use Rattle.asm_state.specs.Operation.{number_or_undef, quotient_or_undef, remainder_or_undef}
use Rattle.asm_state.specs.OperationLaws.{IsDivision, DivisionLaw}

parts : (a n : ℕ) → suc n * (a / suc n) + a % suc n ≡ a
parts a n = omega arith

rest_below : (a n : ℕ) → a % suc n < suc n
rest_below a n = omega arith

two_signs : (n k : ℕ) → negsuc n *ℤ neg_ℤ (pos k) ≡ pos (suc n * k)
two_signs n zero = omega (arith, ints)
two_signs n (suc k) = refl

divided : (m n : ℤ) → n ≢ pos 0 → IsDivision m n (int_div_euclid m n) (int_rem_euclid m n)
divided m (pos zero) apart = absurd (apart refl)
divided (pos a) (pos (suc n)) apart = record {
  whole = omega (arith, ints, parts a n);
  not_negative = omega (arith, ints);
  below = omega (arith, ints, rest_below a n);
}
divided (negsuc a) (pos (suc n)) apart = record {
  whole = omega (arith, ints, parts a n, rest_below a n);
  not_negative = omega (arith, ints);
  below = omega (arith, ints, rest_below a n);
}
divided (pos a) (negsuc n) apart = record {
  whole = omega (arith, ints, parts a n, two_signs n (a / suc n));
  not_negative = omega (arith, ints);
  below = omega (arith, ints, rest_below a n);
}
divided (negsuc a) (negsuc n) apart = record {
  whole = omega (arith, ints, parts a n, rest_below a n);
  not_negative = omega (arith, ints);
  below = omega (arith, ints, rest_below a n);
}

quotient_is : (m n : ℤ) → n ≢ pos 0 → quotient_or_undef m n ≡ number_or_undef (int_div_euclid m n)
quotient_is m (pos zero) apart = absurd (apart refl)
quotient_is m (pos (suc n)) apart = refl
quotient_is m (negsuc n) apart = refl

remainder_is : (m n : ℤ) → n ≢ pos 0 → remainder_or_undef m n ≡ number_or_undef (int_rem_euclid m n)
remainder_is m (pos zero) apart = absurd (apart refl)
remainder_is m (pos (suc n)) apart = refl
remainder_is m (negsuc n) apart = refl

pub division_law : DivisionLaw
division_law m n apart =
    (int_div_euclid m.value n.value, int_rem_euclid m.value n.value, divided m.value n.value apart, quotient_is m.value n.value apart, remainder_is m.value n.value apart)
