-- Definition. Operations on values.
--     op o a b      the value of an operation, undef if an operand is of the wrong kind. One
--                   operand alone is `a`
use Rattle.std.specs.Prelude.{zero, suc, Bool, not, ◌&&◌, ◌||◌, ℤ, pos, negsuc, ◌+ℤ◌, ◌-ℤ◌, ◌*ℤ◌, neg_ℤ, int_lt, int_le, Option, Some, None}
use Rattle.std.specs.Int.{int_div_euclid, int_rem_euclid}
use Rattle.std.specs.Ordering.{eq_by_cmp}
use Rattle.asm_state.specs.declared.number.Number.{Number as WholeNumber}
use Rattle.asm_state.specs.declared.operation.Op.{Op}
use Rattle.asm_state.specs.declared.operation.Op.TheVariants.{Add, Subtract, Multiply, Divide, Remainder, Negate, Less, AtMost, Greater, AtLeast, Equal, Different, And, Or, Not}
use Rattle.asm_state.specs.declared.value.Value.{Value}
use Rattle.asm_state.specs.declared.value.Value.TheVariants.{Undef, Truth, Number}
use Rattle.asm_state.specs.Numbers.{number_with}
use Rattle.asm_state.specs.Value.{value_cmp}

-- the value of a number, and undef if there is none
abbrev pub value_or_undef : Option WholeNumber → Value
value_or_undef (Some n) = Number n
value_or_undef None = Undef

-- a number, or undef if it is out of the range
abbrev pub number_or_undef : ℤ → Value
number_or_undef n = value_or_undef (number_with n)

-- the quotient q and the remainder r of m by n other than 0: m is n * q + r, and r isn't below 0
-- and is below the size of n
abbrev pub quotient_or_undef : ℤ → ℤ → Value
quotient_or_undef m (pos zero) = Undef
quotient_or_undef m (pos (suc n)) = number_or_undef (int_div_euclid m (pos (suc n)))
quotient_or_undef m (negsuc n) = number_or_undef (int_div_euclid m (negsuc n))

abbrev pub remainder_or_undef : ℤ → ℤ → Value
remainder_or_undef m (pos zero) = Undef
remainder_or_undef m (pos (suc n)) = number_or_undef (int_rem_euclid m (pos (suc n)))
remainder_or_undef m (negsuc n) = number_or_undef (int_rem_euclid m (negsuc n))

abbrev pub is_same : Value → Value → Bool
is_same = eq_by_cmp value_cmp

abbrev pub op : Op → Value → Value → Value
op Add (Number m) (Number n) = number_or_undef (m.value +ℤ n.value)
op Subtract (Number m) (Number n) = number_or_undef (m.value -ℤ n.value)
op Multiply (Number m) (Number n) = number_or_undef (m.value *ℤ n.value)
op Divide (Number m) (Number n) = quotient_or_undef m.value n.value
op Remainder (Number m) (Number n) = remainder_or_undef m.value n.value
op Negate (Number m) b = number_or_undef (neg_ℤ m.value)
op Less (Number m) (Number n) = Truth (int_lt m.value n.value)
op AtMost (Number m) (Number n) = Truth (int_le m.value n.value)
op Greater (Number m) (Number n) = Truth (int_lt n.value m.value)
op AtLeast (Number m) (Number n) = Truth (int_le n.value m.value)
op Equal a b = Truth (is_same a b)
op Different a b = Truth (not (is_same a b))
op And (Truth p) (Truth q) = Truth (p && q)
op Or (Truth p) (Truth q) = Truth (p || q)
op Not (Truth p) b = Truth (not p)
op o a b = Undef
