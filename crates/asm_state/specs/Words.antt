-- Definition. Values as words: which value each code stands for.
--     value_of_code c     the value that has the code c, and undef if there is none
--     IsCode c       some value has the code c
use Rattle.std.specs.Prelude.{ℕ, ◌<◌, ◌≤◌, ◌+◌, ◌-◌, nat_lt, cond, pos, ◌-ℤ◌}
use Rattle.asm_state.specs.declared.element.TheConstants.{MAX_ELEMENTS}
use Rattle.asm_state.specs.declared.value.Value.{Value}
use Rattle.asm_state.specs.declared.value.Value.TheVariants.{Undef, Truth}
use Rattle.asm_state.specs.Bounds.{code_of_zero, code_of_first_element}
use Rattle.asm_state.specs.Operation.{number_or_undef}
use Rattle.asm_state.specs.Universe.{element}

-- undef and the truth values
abbrev pub plain_at : ℕ → Value
plain_at c = cond (nat_lt c 2) Undef (Truth (nat_lt 2 c))

unfoldable pub value_of_code : ℕ → Value
value_of_code c = cond (nat_lt c 4) (plain_at c) (cond (nat_lt c code_of_first_element) (number_or_undef (pos c -ℤ pos code_of_zero)) (element (c - code_of_first_element)))

pub record IsCode (c : ℕ) : Type 0 where
  pub positive : 1 ≤ c
  pub known : c < code_of_first_element + MAX_ELEMENTS
