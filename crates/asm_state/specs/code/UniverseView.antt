-- Bridge to the code. What a universe of the code is: its first value, and how many values there
-- are. Their codes follow one another.
--     values_from first count      the values
--     first_code first             the code of the first value, if there is one
--     end_code first               the code after the last value of its kind
use Rattle.std.specs.Prelude.{ℕ, ◌+◌, ◌≤◌, List, ◌≤ℤ◌}
use Rattle.asm_state.specs.declared.signature_limits.TheConstants.{MAX_VALUES}
use Rattle.asm_state.specs.declared.element.TheConstants.{MAX_ELEMENTS}
use Rattle.asm_state.specs.Bounds.{least_number, greatest_number, code_of_first_element}
use Rattle.asm_state.specs.declared.universe.First.{First}
use Rattle.asm_state.specs.declared.universe.First.TheVariants as first
use Rattle.asm_state.specs.declared.value.Value.{Value}
use Rattle.asm_state.specs.code.Codes.{number_code}
use Rattle.asm_state.specs.Universe.{elements, numbers}

abbrev pub values_from : First → ℕ → List Value
values_from (first.Element k) count = elements k count
values_from (first.Number z) count = numbers z count

abbrev pub IsFirst : First → Type 0
IsFirst (first.Element k) = k ≤ MAX_ELEMENTS
IsFirst (first.Number z) = (least_number ≤ℤ z) × (z ≤ℤ greatest_number)

abbrev pub first_code : First → ℕ
first_code (first.Element k) = code_of_first_element + k
first_code (first.Number z) = number_code z

abbrev pub end_code : First → ℕ
end_code (first.Element k) = code_of_first_element + MAX_ELEMENTS
end_code (first.Number z) = code_of_first_element

pub record IsWithin (first : First) (count : ℕ) : Type 0 where
  pub few : count ≤ MAX_VALUES
  pub is_first : IsFirst first
  pub in_range : first_code first + count ≤ end_code first
