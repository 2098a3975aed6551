-- Bridge to the code. What a specification declares, as hints say it.
--     meaning_of m        what is declared so, with its number of parameters
--     Seen, seen d        a name with that; those of a declaration
--     seen_in item        those of the declarations of an item
--     seen_of d           those that the code has
use Rattle.std.specs.Prelude.{List, map, length}
use Rattle.asm_syntax.specs.SourceTree as source
use Rattle.asm_syntax.specs.code.Views.{name_of}
use Rattle.asm_check.specs.Names as names
use Rattle.asm_check.specs.Names.{declarations_of}
use Rattle.asm_explore_hints.specs.declared.declarations.Declaration.{Declaration}
use Rattle.asm_explore_hints.specs.declared.declarations.Meaning.{Meaning}
use Rattle.asm_explore_hints.specs.declared.declarations.Meaning.TheVariants as code

abbrev pub meaning_of : names.Meaning → Meaning
meaning_of names.Predeclared = code.Universe
meaning_of (names.Range first last) = code.Universe
meaning_of (names.Enumeration item) = code.Enumeration
meaning_of (names.Element item) = code.Element
meaning_of (names.Controlled domain) = code.Controlled (length domain)
meaning_of (names.Static domain) = code.Static (length domain)
meaning_of (names.Derived parameters t) = code.Derived (length parameters)
meaning_of (names.NamedRule parameters P) = code.Rule (length parameters)

abbrev pub Seen : Type 0
Seen = source.Name × Meaning

abbrev pub seen : names.Declaration → Seen
seen d = (d.name, meaning_of d.meaning)

abbrev pub seen_in : source.Item → List Seen
seen_in item = map seen (declarations_of 0 item)

abbrev pub seen_of : Declaration → Seen
seen_of d = (name_of d.name.now, d.meaning)
