-- Definition. Which candidate is taken.
--     taken k vs      the candidate with number k modulo their number, if there are any
use Rattle.std.specs.Prelude.{ℕ, ◌%◌, List, [], ◌∷◌, Option, Some, None, length, slice_index_or}
use Rattle.asm_state.specs.declared.value.Value.{Value}

abbrev pub taken : ℕ → List Value → Option Value
taken k [] = None
taken k (v ∷ vs) = Some (slice_index_or (v ∷ vs) (k % length (v ∷ vs)) v)
