-- Bridge to the code. Universes whose codes follow each other.
--     IsCodeRange span vs      the values have the codes from the span's first on, and are as many
use Rattle.std.specs.Prelude.{◌≡◌, List, length}
use Rattle.asm_state.specs.code.ConsecutiveCodes.{AreConsecutive}
use Rattle.asm_state.specs.declared.value.Value.{Value}
use Rattle.asm_code.specs.declared.code.CodeRange.{CodeRange}

pub record IsCodeRange (span : CodeRange) (vs : List Value) : Type 0 where
  pub count : span.count ≡ length vs
  pub in_turn : AreConsecutive span.low vs
