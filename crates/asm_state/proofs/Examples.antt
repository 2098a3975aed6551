-- Law. Examples of operations, and of locations and their numbers.
use Rattle.std.proofs.Common.{◌≡◌, refl, List, [], ◌∷◌, ℤ, true, false, pos, negsuc}
use Rattle.asm_state.specs.Bounds.{greatest_number}
use Rattle.asm_state.specs.declared.value.Value.TheVariants.{Undef, Truth}
use Rattle.asm_state.specs.declared.operation.Op.TheVariants.{Add, Divide, Remainder, Less, And, Equal}
use Rattle.asm_state.specs.declared.value.Value.{Value}
use Rattle.asm_state.specs.declared.function.FunctionKind.TheVariants.{Controlled}
use Rattle.asm_state.specs.declared.function.Table.TheVariants.{Same}
use Rattle.asm_state.specs.Location.{Stray}
use Rattle.asm_state.specs.Numbers.{number_with}
use Rattle.asm_state.specs.Operation.{op, number_or_undef}
use Rattle.asm_state.specs.Signature.{Shape, count_of, location_at, number_at, domain_of}
use Rattle.asm_state.specs.Tables.{location_in}
use Rattle.asm_state.specs.Universe.{numbers_between}

abbrev number : ℤ → Value
number = number_or_undef

below_zero : op Divide (number (negsuc 6)) (number (pos 2)) ≡ number (negsuc 3)
unfolding number_with
below_zero = refl

rest_below_zero : op Remainder (number (negsuc 6)) (number (pos 2)) ≡ number (pos 1)
unfolding number_with
rest_below_zero = refl

by_below_zero : op Divide (number (pos 7)) (number (negsuc 1)) ≡ number (negsuc 2)
unfolding number_with
by_below_zero = refl

rest_by_below_zero : op Remainder (number (pos 7)) (number (negsuc 1)) ≡ number (pos 1)
unfolding number_with
rest_by_below_zero = refl

both_below_zero : op Divide (number (negsuc 6)) (number (negsuc 1)) ≡ number (pos 4)
unfolding number_with
both_below_zero = refl

rest_both_below_zero : op Remainder (number (negsuc 6)) (number (negsuc 1)) ≡ number (pos 1)
unfolding number_with
rest_both_below_zero = refl

by_zero : op Divide (number (pos 1)) (number (pos 0)) ≡ Undef
unfolding number_with
by_zero = refl

past_the_range : op Add (number greatest_number) (number (pos 1)) ≡ Undef
unfolding number_with
past_the_range = refl

of_two_kinds : op Less (number (pos 2)) (Truth true) ≡ Undef
unfolding number_with
of_two_kinds = refl

beside_undef : op And (Truth false) Undef ≡ Undef
beside_undef = refl

of_undef : op Equal Undef Undef ≡ Truth true
of_undef = refl

-- ---- locations: one function over the numbers from 0 to 3, and one without arguments

four : List Value
four = number (pos 0) ∷ number (pos 1) ∷ number (pos 2) ∷ number (pos 3) ∷ []

two_functions : Shape
two_functions = record {
  universes = four ∷ [];
  functions = record { kind = Controlled; domain = 0 ∷ []; table = Same Undef } ∷ record { kind = Controlled; domain = []; table = Same Undef } ∷ [];
}

from_a_range : numbers_between (pos 0) (pos 3) ≡ four
unfolding four
from_a_range = refl

seven_locations : count_of two_functions ≡ 7
unfolding two_functions four
seven_locations = refl

the_last_is_stray : location_at two_functions 6 ≡ Stray 1
unfolding two_functions four
the_last_is_stray = refl

within_the_domain : number_at two_functions (location_in 0 (domain_of two_functions 0) (number (pos 3) ∷ [])) ≡ 3
unfolding two_functions four number_with
within_the_domain = refl

outside_the_domain : number_at two_functions (location_in 0 (domain_of two_functions 0) (number (pos 9) ∷ [])) ≡ 4
unfolding two_functions four number_with
outside_the_domain = refl

without_arguments : number_at two_functions (location_in 1 (domain_of two_functions 1) []) ≡ 5
unfolding two_functions four number_with
without_arguments = refl
