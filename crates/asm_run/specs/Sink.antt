-- Definition. What a write to a sink does to the bytes that it holds, if those are known.
use Rattle.std.specs.Prelude.{◌<◌, ℕ, Bool, true, ◌&&◌, ◌==◌, nat_lt, List, length, take, Result, Ok, Err, Option}
use Rattle.std.specs.Io.KnownBytes.{Appends}

-- a write of this piece failed: it was refused, or nothing was taken of a piece that has bytes
abbrev pub is_failure : {E : Type 0} → Result ℕ E → List ℕ → Bool
is_failure (Err e) piece = true
is_failure (Ok taken) piece = taken == 0 && nat_lt 0 (length piece)

-- known bytes grow by the front of a text, which isn't all of it
pub record AppendsFront (old new : Option (List ℕ)) (text : List ℕ) : Type 0 where
  pub count : ℕ
  pub less : count < length text
  pub bytes : Appends old new (take count text)
