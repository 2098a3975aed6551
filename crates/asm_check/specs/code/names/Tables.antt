-- Bridge to the code. The table of declared names, as the code keeps it.
--     declared_as_view m      what the code's `DeclaredAs` stands for
--     IsTableOf spec entries  the entries are the first declarations of the specification, in their
--                             order
--     text_at entries i       the name at a position
use Rattle.std.specs.Prelude.{◌≡◌, ℕ, List, [], map, slice_get, Option, Some, None}
use Rattle.std.specs.Borrow.{Bor}
use Rattle.asm_syntax.specs.SourceTree.{Spec}
use Rattle.asm_syntax.specs.code.Views.{name_of, term_of, rule_of}
use Rattle.asm_check.specs.declared.names.declared_as.DeclaredAs.{DeclaredAs}
use Rattle.asm_check.specs.declared.names.declared_as.DeclaredAs.TheVariants as code
use Rattle.asm_check.specs.declared.names.declared_as.Declaration.{Declaration as CodeDeclaration}
use Rattle.asm_check.specs.Names as names
use Rattle.asm_check.specs.Names.{Text, Declaration, first_declarations}

abbrev pub declared_as_view : DeclaredAs → names.Meaning
declared_as_view code.Predeclared = names.Predeclared
declared_as_view (code.Range first last) = names.Range first.value last.value
declared_as_view (code.Enumeration k) = names.Enumeration k
declared_as_view (code.Element k) = names.Element k
declared_as_view (code.Controlled domain) = names.Controlled (map name_of domain.now)
declared_as_view (code.Static domain) = names.Static (map name_of domain.now)
declared_as_view (code.Derived body) = names.Derived (map name_of body.parameters.now) (term_of body.term.now)
declared_as_view (code.Rule body) = names.NamedRule (map name_of body.parameters.now) (rule_of body.rule.now)

abbrev pub Entry : Type 0
Entry = Bor (List ℕ) × CodeDeclaration

abbrev pub declaration_of : Entry → Declaration
declaration_of e = record { name = record { at = e.1.at; text = e.0.now }; meaning = declared_as_view e.1.meaning }

abbrev pub IsTableOf : Spec → List Entry → Type 0
IsTableOf spec entries = map declaration_of entries ≡ first_declarations spec

abbrev pub text_of_entry : Option Entry → Text
text_of_entry None = []
text_of_entry (Some e) = e.0.now

abbrev pub text_at : List Entry → ℕ → Text
text_at entries i = text_of_entry (slice_get entries i)
