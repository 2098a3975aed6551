use Rattle.std.proofs.Common.{List, ℕ, ◌++◌, take, flat_map}
use Rattle.sha2.specs.Hashers.{Holds256}
use Rattle.asm_syntax.specs.code.Views.{name_of}
use Rattle.asm_check.specs.code.names.NameHash.{name_bytes}
use Rattle.asm_check.proofs.names.name_hash.NamesDigest.names.Given as goal

abbrev pub invariant-loop-name : goal.invariant-loop-name
invariant-loop-name l = (m : List ℕ) → Holds256 l.fn.self.digest m → Holds256 l.self.digest (m ++ flat_map (λ name. name_bytes (name_of name).text) (take l.name-index l.names))
