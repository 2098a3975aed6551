-- Bridge to the code. The codes of values: numbers from 1 on that rise with the values.
use Rattle.std.specs.Prelude.{ℕ, suc, ℤ, pos, negsuc, ◌+◌, ◌-◌, true, false}
use Rattle.asm_state.specs.Bounds.{code_of_zero, code_of_first_element}
use Rattle.asm_state.specs.declared.value.Value.{Value}
use Rattle.asm_state.specs.declared.value.Value.TheVariants.{Undef, Truth, Number, Element}

-- the code of a number lies as far above that of 0, as the number lies above 0
abbrev pub number_code : ℤ → ℕ
number_code (pos n) = code_of_zero + n
number_code (negsuc n) = code_of_zero - suc n

abbrev pub code_of : Value → ℕ
code_of Undef = 1
code_of (Truth false) = 2
code_of (Truth true) = 3
code_of (Number n) = number_code n.value
code_of (Element e) = code_of_first_element + e.index
