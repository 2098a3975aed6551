-- Bridge to the code. The hashes of states, by their contents.
--     next_hash hash code          a hash with one more code
--     hash_from hash contents      a hash with the codes of more contents
--     hash_of_contents contents    the hash of a state that has these contents
use Rattle.std.specs.Prelude.{◌*◌, ◌%◌, ◌^◌, ℕ, List, [], ◌∷◌, bit_xor}
use Rattle.std.specs.Int.{rotate_left, w64}
use Rattle.asm_state.specs.code.Codes.{code_of}
use Rattle.asm_state.specs.declared.value.Value.{Value}

unfoldable pub next_hash : (hash code : ℕ) → ℕ
next_hash hash code = (bit_xor (rotate_left w64 hash 5) code * 0x517C_C1B7_2722_0A95) % 2 ^ 64

abbrev pub hash_from : (hash : ℕ) → List Value → ℕ
hash_from hash [] = hash
hash_from hash (v ∷ vs) = hash_from (next_hash hash (code_of v)) vs

abbrev pub hash_of_contents : List Value → ℕ
hash_of_contents contents = hash_from 0x9E37_79B9_7F4A_7C15 contents
