-- Definition. Numbers, by their values.
--     number_with z     the number with this value, if it is in the range
use Rattle.std.specs.Prelude.{◌≡◌, refl, Bool, true, false, ℤ, int_le, ◌≤ℤ◌, Option, Some, None}
use Rattle.std.proofs.Common.{subst, sym}
use lib.Dec.{T}
use lib.Signed.{le_z_yes}
use Rattle.asm_state.specs.Bounds.{least_number, greatest_number}
use Rattle.asm_state.specs.declared.number.Number.{Number}

-- a test that was passed
pub at_most : {a b : ℤ} → int_le a b ≡ true → a ≤ℤ b
at_most {a} {b} e = le_z_yes (subst T (sym e) tt)

-- a number by whether it isn't too small and whether it isn't too great
abbrev pub number_by_tests : (z : ℤ) (low high : Bool) → int_le least_number z ≡ low → int_le z greatest_number ≡ high → Option Number
number_by_tests z true true low high = Some (record { value = z; low = at_most low; high = at_most high })
number_by_tests z true false low high = None
number_by_tests z false high_test low high = None

unfoldable pub number_with : ℤ → Option Number
number_with z = number_by_tests z (int_le least_number z) (int_le z greatest_number) refl refl
