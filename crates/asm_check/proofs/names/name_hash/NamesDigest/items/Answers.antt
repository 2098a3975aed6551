use Rattle.std.proofs.Common.{ℕ, List, ◌++◌, take, flat_map, subst, arith}
use Rattle.std.proofs.lemmas.List.{take_all}
use Rattle.sha2.specs.Hashers.{Holds256}
use Rattle.asm_syntax.specs.code.Views.{item_of}
use Rattle.asm_syntax.specs.declared.spec.Item.{Item}
use Rattle.asm_check.specs.code.names.NameHash.{item_bytes}
use Rattle.asm_check.proofs.NameLemmas.DeclaredBytes.{none_held, one_held}
use Rattle.asm_check.proofs.names.name_hash.NamesDigest.items.Goals as goal

abbrev bytes : Item → List ℕ
bytes item = item_bytes (item_of item)

pub loop-item-init : goal.loop-item-init
loop-item-init c = λ m held. none_held c.args.self.now.digest m held

pub loop-item-preserved : goal.loop-item-preserved
loop-item-preserved c = λ m held.
    one_held bytes c.item.new.self.digest m c.args.items.now c.loop-item.item-index c.item-item.result (omega arith) c.item-item.is
    (c.item.ensures (m ++ flat_map bytes (take c.loop-item.item-index c.args.items.now)) (c.loop-item.invariant m held))

pub returns : goal.returns
returns c = λ m held.
    subst (λ xs. Holds256 c.loop-item.self.digest (m ++ flat_map bytes xs)) (take_all c.loop-item.item-index c.args.items.now (omega arith)) (c.loop-item.invariant m held)
