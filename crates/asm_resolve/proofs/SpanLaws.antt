-- Free. The position of a value's code in a code range.
use Rattle.std.proofs.Common.{◌≡◌, ℕ, List, length, sym}
use Rattle.std.specs.List.{position}
use Rattle.asm_state.specs.Operation.{is_same}
use Rattle.asm_state.specs.code.ConsecutiveCodes.{AreConsecutive}
use Rattle.asm_state.specs.declared.value.Value.{Value}
use Rattle.asm_state.proofs.ConsecutiveCodes.{consecutive_laws}
use Rattle.asm_code.specs.code.Readings.{position_from}

-- the position of a code among those of such values is that of the value
pub place_is : (low : ℕ) (vs : List Value) → AreConsecutive low vs → (v : Value) → position_from low (length vs) v ≡ position (is_same v) vs
place_is low vs turn v = sym (consecutive_laws.at_code low vs v turn)
