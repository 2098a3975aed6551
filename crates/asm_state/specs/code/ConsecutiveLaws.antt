-- Bridge to the code. Laws of values whose codes follow each other.
use Rattle.std.specs.Prelude.{◌≡◌, ℕ, List, length}
use Rattle.std.specs.List.{position}
use Rattle.asm_state.specs.declared.value.Value.{Value}
use Rattle.asm_state.specs.code.Codes.{code_of}
use Rattle.asm_state.specs.Operation.{is_same}
use Rattle.asm_state.specs.code.ConsecutiveCodes.{AreConsecutive, code_position}
use Rattle.asm_state.specs.Universe.{IsUniverse}

pub record ConsecutiveLaws : Type 0 where
  -- the position of a value is that of its code
  pub at_code : (low : ℕ) (vs : List Value) (v : Value) → AreConsecutive low vs → position (is_same v) vs ≡ code_position low (length vs) (code_of v)
  -- such values rise
  pub rise : (low : ℕ) (vs : List Value) → AreConsecutive low vs → IsUniverse vs
