use Rattle.std.proofs.Common.{ℕ, List, ◌++◌, take, flat_map, subst, arith}
use Rattle.std.proofs.lemmas.List.{take_all}
use Rattle.sha2.specs.Hashers.{Holds256}
use Rattle.asm_syntax.specs.code.Views.{name_of}
use Rattle.asm_syntax.specs.declared.name.Name.{Name}
use Rattle.asm_check.specs.code.names.NameHash.{name_bytes}
use Rattle.asm_check.proofs.NameLemmas.DeclaredBytes.{none_held, one_held}
use Rattle.asm_check.proofs.names.name_hash.NamesDigest.names.Goals as goal

abbrev bytes : Name → List ℕ
bytes name = name_bytes (name_of name).text

pub loop-name-init : goal.loop-name-init
loop-name-init c = λ m held. none_held c.args.self.now.digest m held

pub loop-name-preserved : goal.loop-name-preserved
loop-name-preserved c = λ m held.
    one_held bytes c.name.new.self.digest m c.args.names.now c.loop-name.name-index c.name-item.result (omega arith) c.name-item.is
    (c.name.ensures (m ++ flat_map bytes (take c.loop-name.name-index c.args.names.now)) (c.loop-name.invariant m held))

pub returns : goal.returns
returns c = λ m held.
    subst (λ xs. Holds256 c.loop-name.self.digest (m ++ flat_map bytes xs)) (take_all c.loop-name.name-index c.args.names.now (omega arith)) (c.loop-name.invariant m held)
