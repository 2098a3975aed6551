-- Bridge to the code. Conditions: chains of `and`, and what is false.
use Rattle.std.specs.Prelude.{Bool, true, false}
use Rattle.asm_state.specs.declared.value.Value.{Value}
use Rattle.asm_state.specs.declared.value.Value.TheVariants.{Truth}
use Rattle.asm_state.specs.declared.operation.Op.{Op}
use Rattle.asm_state.specs.declared.operation.Op.TheVariants.{And}
use Rattle.asm_code.specs.declared.code.Code.{Code}

-- whether a value is the truth value false
abbrev pub is_false : Value → Bool
is_false (Truth false) = true
is_false v = false

abbrev pub is_and_operation : Op → Bool
is_and_operation And = true
is_and_operation o = false

abbrev pub is_and : Op × Code → Bool
is_and link = is_and_operation link.0
