use Rattle.std.proofs.Common.{List, ℕ, ◌++◌, take, flat_map}
use Rattle.sha2.specs.Hashers.{Holds256}
use Rattle.asm_syntax.specs.code.Views.{item_of}
use Rattle.asm_check.specs.code.names.NameHash.{item_bytes}
use Rattle.asm_check.proofs.names.name_hash.NamesDigest.items.Given as goal

abbrev pub invariant-loop-item : goal.invariant-loop-item
invariant-loop-item l = (m : List ℕ) → Holds256 l.fn.self.digest m → Holds256 l.self.digest (m ++ flat_map (λ item. item_bytes (item_of item)) (take l.item-index l.items))
