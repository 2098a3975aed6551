-- Free. A number in the range is its own value, and what the code's arithmetic gives is the number
-- that is meant.
pub use Rattle.asm_state.specs.code.WordCodes.{number_is, number_in_range}
use Rattle.std.proofs.Common.{◌≡◌, Bool, true, false, Some, None, refl, sym, ap, ◌∙◌, subst, ℤ, pos, ◌≤ℤ◌, ◌+ℤ◌, ◌-ℤ◌, ◌*ℤ◌, neg_ℤ, to_z, of_z, w64, FitsSigned, arith}
use Rattle.std.specs.Prelude.{int_le}
use Rattle.std.proofs.lemmas.Int.{ints}
use Rattle.asm_state.specs.Bounds.{least_number, greatest_number}
use Rattle.asm_state.specs.declared.number.Number.{Number as WholeNumber}
use Rattle.asm_state.specs.declared.value.Value.{Value}
use Rattle.asm_state.specs.declared.value.Value.TheVariants.{Undef}
use Rattle.asm_state.specs.Numbers.{number_with}
use Rattle.asm_state.specs.Numbers.{at_most, number_by_tests, number_with}
use Rattle.asm_state.specs.Operation.{number_or_undef, value_or_undef}

tests_value : (z : ℤ) (n : WholeNumber) (low high : Bool) (low_is : int_le least_number z ≡ low) (high_is : int_le z greatest_number ≡ high) → number_by_tests z low high low_is high_is ≡ Some n → n.value ≡ z
tests_value z n true true low_is high_is e = cc
tests_value z n true false low_is high_is e = absurd cc
tests_value z n false high low_is high_is e = absurd cc

-- and has it
pub number_has : (z : ℤ) (n : WholeNumber) → number_with z ≡ Some n → n.value ≡ z
unfolding number_with
number_has z n e = tests_value z n _ _ _ _ e

-- what the code's arithmetic gives, whose terms show the numbers as bits and back
pub kept : (z : ℤ) (low : least_number ≤ℤ to_z w64 (of_z w64 z)) (high : to_z w64 (of_z w64 z) ≤ℤ greatest_number) → least_number ≤ℤ z → z ≤ℤ greatest_number → Some (record { value = to_z w64 (of_z w64 z); low = low; high = high }) ≡ number_with z
kept z low high above below =
    let same : to_z w64 (of_z w64 z) ≡ z = omega (arith, ints) in
    number_is z (record { value = to_z w64 (of_z w64 z); low = low; high = high }) same

pub sum_is : (m n : WholeNumber) (r : Value) → r ≡ number_or_undef (to_z w64 (of_z w64 (to_z w64 (of_z w64 m.value) +ℤ to_z w64 (of_z w64 n.value)))) → r ≡ number_or_undef (m.value +ℤ n.value)
sum_is m n r e =
    let same : to_z w64 (of_z w64 (to_z w64 (of_z w64 m.value) +ℤ to_z w64 (of_z w64 n.value))) ≡ m.value +ℤ n.value = omega (arith, ints, m.low, m.high, n.low, n.high) in
    e ∙ ap number_or_undef same

pub difference_is : (m n : WholeNumber) (r : Value) → r ≡ number_or_undef (to_z w64 (of_z w64 (to_z w64 (of_z w64 m.value) -ℤ to_z w64 (of_z w64 n.value)))) → r ≡ number_or_undef (m.value -ℤ n.value)
difference_is m n r e =
    let same : to_z w64 (of_z w64 (to_z w64 (of_z w64 m.value) -ℤ to_z w64 (of_z w64 n.value))) ≡ m.value -ℤ n.value = omega (arith, ints, m.low, m.high, n.low, n.high) in
    e ∙ ap number_or_undef same

pub negative_is : (m : WholeNumber) (r : Value) → r ≡ number_or_undef (to_z w64 (of_z w64 (pos 0 -ℤ to_z w64 (of_z w64 m.value)))) → r ≡ number_or_undef (neg_ℤ m.value)
negative_is m r e =
    let same : to_z w64 (of_z w64 (pos 0 -ℤ to_z w64 (of_z w64 m.value))) ≡ neg_ℤ m.value = omega (arith, ints, m.low, m.high) in
    e ∙ ap number_or_undef same

-- a number that 64 bits can't hold isn't in the range
tests_fail : (z : ℤ) (low high : Bool) (low_is : int_le (least_number) z ≡ low) (high_is : int_le z greatest_number ≡ high) → ¬ (FitsSigned w64 z) → None ≡ number_by_tests z low high low_is high_is
tests_fail z true true low_is high_is h =
    let above : least_number ≤ℤ z = at_most low_is in
    let below : z ≤ℤ greatest_number = at_most high_is in
    absurd (h (omega (arith, ints)))
tests_fail z true false low_is high_is h = refl
tests_fail z false high low_is high_is h = refl

too_long : (z : ℤ) → ¬ (FitsSigned w64 z) → None ≡ number_with z
unfolding number_with
too_long z h = tests_fail z _ _ _ _ h

bits_keep : (m : WholeNumber) → to_z w64 (of_z w64 m.value) ≡ m.value
bits_keep m = omega (arith, ints, m.low, m.high)

pub no_product : (m n : WholeNumber) → ¬ (FitsSigned w64 (to_z w64 (of_z w64 m.value) *ℤ to_z w64 (of_z w64 n.value))) → Undef ≡ number_or_undef (m.value *ℤ n.value)
no_product m n h =
    ap value_or_undef (too_long (m.value *ℤ n.value) (λ fits. h (subst (FitsSigned w64) (λ i. sym (bits_keep m) i *ℤ sym (bits_keep n) i) fits)))
