use Rattle.std.proofs.Common.{ℕ, List, ◌++◌, flat_map, subst, sym}
use Rattle.sha2.specs.Hashers.{Holds256}
use Rattle.asm_syntax.specs.code.Views.{item_of, name_of}
use Rattle.asm_syntax.specs.declared.name.Name.{Name}
use Rattle.asm_check.specs.code.names.NameHash.{name_bytes, item_bytes}
use Rattle.asm_check.proofs.NameLemmas.DeclaredBytes.{enumeration_held}
use Rattle.asm_check.proofs.names.name_hash.NamesDigest.item.Goals as goal

abbrev bytes : Name → List ℕ
bytes name = name_bytes (name_of name).text

pub returns-in-Enum : goal.returns-in-Enum
returns-in-Enum c = λ m held.
    let new = c.names.new.self.digest in
    let before = m ++ bytes c.in-Enum.name in
    subst (λ item. Holds256 new (m ++ item_bytes (item_of item))) (sym c.in-Enum.is)
    (enumeration_held name_of new m (name_of c.in-Enum.name).text 0 c.in-Enum.elements.items
    (subst (λ xs. Holds256 new (before ++ flat_map bytes xs)) c.deref.ensures.value (c.names.ensures before (c.name.ensures m held))))
