-- Bridge to the code. Values that a byte stands for: `undef`, the truth values, the numbers from
-- -32 to 95, and the first 124 elements. So each byte stands for one, and 0 for undef too.
--     code_of_byte b       the code of the value
--     content_of_byte b    the value
use Rattle.std.specs.Prelude.{ℕ, ◌+◌, ◌-◌, cond, max, nat_lt}
use Rattle.asm_state.specs.Bounds.{code_of_zero, code_of_first_element}
use Rattle.asm_state.specs.Words.{value_of_code}
use Rattle.asm_state.specs.declared.value.Value.{Value}

abbrev pub code_of_byte : ℕ → ℕ
code_of_byte b = cond (nat_lt b 4) (max b 1) (cond (nat_lt b 132) (b + (code_of_zero - 36)) (b + (code_of_first_element - 132)))

abbrev pub content_of_byte : ℕ → Value
content_of_byte b = value_of_code (code_of_byte b)
