-- Free. Remainders by powers of two, by the last binary digits.
use Rattle.std.proofs.Common.{◌≡◌, ℕ, zero, suc, ◌+◌, ◌-◌, ◌*◌, ◌^◌, ◌<◌, ◌≤◌, refl, sym, ap, ◌∙◌, arith, ℤ, pos, ◌+ℤ◌, to_z, w64}
use Rattle.std.specs.Prelude.{bit_and}
use Rattle.std.specs.Int.{int_rem_euclid}
use Rattle.std.proofs.lemmas.Int.{int_rem_euclid_is, to_z_pos}
use Rattle.std.proofs.lemmas.Nat.{and_le_r, and_mask, pow-add, pow_pos}
use Rattle.asm_state.specs.Operation.{number_or_undef, remainder_or_undef}

-- a number plus a greater power of two, as a natural number m, has its last digits
pub digits_are : (v n : ℤ) (e m k : ℕ) → e ≤ 62 → n ≡ pos (2 ^ e) → v +ℤ pos (2 ^ 62) ≡ pos m → k + 1 ≡ 2 ^ e → k < 2 ^ 63 → to_z w64 (bit_and m k) ≡ int_rem_euclid v n
digits_are v n e m k few is sum mask small =
    let exponents : 62 - e + e ≡ 62 = omega (arith, few) in
    let whole : 2 ^ (62 - e) * 2 ^ e ≡ 2 ^ 62 = sym (pow-add 2 (62 - e) e) ∙ ap (λ j. 2 ^ j) exponents in
    let same : k ≡ 2 ^ e - 1 = omega (arith, mask) in
    let within : bit_and m k < 2 ^ 63 = omega (arith, and_le_r m k, small) in
    to_z_pos w64 (bit_and m k) within ∙ ap (λ j. pos (bit_and m j)) same ∙ ap pos (and_mask m e)
    ∙ sym (int_rem_euclid_is v n (2 ^ e) (2 ^ (62 - e)) m (pow_pos e) is (ap (λ j. v +ℤ pos j) whole ∙ sum))

pub remainder_is : (v : ℤ) (n : ℕ) → 0 < n → number_or_undef (int_rem_euclid v (pos n)) ≡ remainder_or_undef v (pos n)
remainder_is v zero some = absurd (omega (arith, some))
remainder_is v (suc n) some = refl
