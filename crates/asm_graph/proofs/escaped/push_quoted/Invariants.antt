use Rattle.std.proofs.Common.{◌≡◌, ◌++◌, take}
use Rattle.std.specs.String.{string_bytes}
use Rattle.asm_graph.specs.Dot.{escaped}
use Rattle.asm_graph.proofs.escaped.push_quoted.Given as goal

-- the first bytes are written
abbrev pub invariant-loop-byte : goal.invariant-loop-byte
invariant-loop-byte l = string_bytes l.text ≡ string_bytes l.initial.text ++ escaped (take l.byte-index l.bytes)
