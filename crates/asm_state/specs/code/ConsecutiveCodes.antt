-- Bridge to the code. Values whose codes follow each other.
--     AreConsecutive low vs            the values of a list have the codes from low on, in turn
--     code_position low count c        where the code c is among `count` codes from low on
use Rattle.std.specs.Prelude.{◌≡◌, ◌<◌, ◌+◌, ◌-◌, ℕ, nat_lt, cond, List, length, slice_index_or, Option, Some, None}
use Rattle.asm_state.specs.declared.value.Value.{Value}
use Rattle.asm_state.specs.code.Codes.{code_of}

pub record AreConsecutive (low : ℕ) (vs : List Value) : Type 0 where
  pub code_at : (i : ℕ) (d : Value) → i < length vs → code_of (slice_index_or vs i d) ≡ low + i

abbrev pub code_position : (low count code : ℕ) → Option ℕ
code_position low count c = cond (nat_lt c low) None (cond (nat_lt (c - low) count) (Some (c - low)) None)
