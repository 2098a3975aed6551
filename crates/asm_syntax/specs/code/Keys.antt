-- Bridge to the code. A number that goes with each text: texts with different keys differ, and
-- short ones of one length with one key are the same.
use Rattle.std.specs.Prelude.{ℕ, ◌+◌, ◌*◌, ◌<◌, List, get_or, fold, length, nat_le, if◌then◌else◌}
use Rattle.std.specs.Hash.FoldHasher.{initial, write, finish}

-- the number whose digits to the base 256 are those of another one, and then these bytes
abbrev pub packed : ℕ → List ℕ → ℕ
packed key bytes = fold (λ k byte. 256 * k + byte) key bytes

unfoldable pub key_of : List ℕ → ℕ
key_of text = if nat_le (length text) 8 then packed 0 text else finish (write initial text)

abbrev pub AreBytes : List ℕ → Type 0
AreBytes bytes = (i : ℕ) → get_or bytes i 0 < 256
