-- Bridge to the code. The source trees that the code's trees stand for.
use Rattle.std.specs.Prelude.{List, map, Option, Some, None, option_map}
use Rattle.std.proofs.Common.{Box, Global}
use Rattle.asm_state.specs.declared.operation.Op.{Op}
use Rattle.asm_syntax.specs.SourceTree as source
pub use Rattle.asm_syntax.specs.SourceTree.{terms_of, links_of, rules_of}
use Rattle.asm_syntax.specs.declared.name.Name.{Name}
use Rattle.asm_syntax.specs.declared.term.Term.{Term}
use Rattle.asm_syntax.specs.declared.term.Term.TheOpen.{Term-F}
use Rattle.asm_syntax.specs.declared.term.Term.TheOpen as term
use Rattle.asm_syntax.specs.declared.term.Term.TheFolds.{fold-Term}
use Rattle.asm_syntax.specs.declared.rule.Rule.{Rule}
use Rattle.asm_syntax.specs.declared.rule.Target.{Target}
use Rattle.asm_syntax.specs.declared.rule.Rule.TheOpen.{Rule-F}
use Rattle.asm_syntax.specs.declared.rule.Rule.TheOpen as rule
use Rattle.asm_syntax.specs.declared.rule.Rule.TheFolds.{fold-Rule}
use Rattle.asm_syntax.specs.declared.spec.Const.{Const}
use Rattle.asm_syntax.specs.declared.spec.Const.TheVariants as const
use Rattle.asm_syntax.specs.declared.spec.Entry.{Entry}
use Rattle.asm_syntax.specs.declared.spec.Given.{Given}
use Rattle.asm_syntax.specs.declared.spec.Given.TheVariants as given
use Rattle.asm_syntax.specs.declared.spec.Item.{Item}
use Rattle.asm_syntax.specs.declared.spec.Item.TheVariants as item
use Rattle.asm_syntax.specs.declared.spec.Spec.{Spec}

abbrev pub name_of : Name → source.Name
name_of n = record { at = n.at; text = n.text }

-- ---- terms and rules: one layer, around the trees of its parts

abbrev pub term_step : Term-F source.Term → source.Term
term_step (term.Constant l) = source.Constant l
term_step (term.Named name arguments) = source.Named (name_of name) (terms_of arguments.items)
term_step (term.Chain first rest) = source.Chain first.value (links_of rest.items)
term_step (term.Not t) = source.Not t.value
term_step (term.Negative t) = source.Negative t.value
term_step (term.Exists name over test) = source.Exists (name_of name) (name_of over) test.value
term_step (term.Every name over test) = source.Every (name_of name) (name_of over) test.value
term_step (term.Result name) = source.Result (name_of name)

abbrev pub term_of : Term → source.Term
term_of = fold-Term source.Term term_step

abbrev pub branch_of : Option (Box source.Rule Global) → source.Branch
branch_of None = source.left_out
branch_of (Some P) = source.written P.value

abbrev pub test_of : Option Term → Option source.Term
test_of None = None
test_of (Some t) = Some (term_of t)

abbrev pub target_of : Option Target → Option (source.Name × source.Terms)
target_of None = None
target_of (Some t) = Some (name_of t.name, terms_of (map term_of t.arguments.items))

abbrev pub rule_step : Rule-F source.Rule → source.Rule
rule_step rule.Skip = source.Skip
rule_step (rule.Assign name arguments value) = source.Assign (name_of name) (terms_of (map term_of arguments.items)) (term_of value)
rule_step (rule.Call target name arguments) = source.Call (target_of target) (name_of name) (terms_of (map term_of arguments.items))
rule_step (rule.Par Ps) = source.Par (rules_of Ps.items)
rule_step (rule.Seq Ps) = source.Seq (rules_of Ps.items)
rule_step (rule.If test first other) = source.If (term_of test) first.value (branch_of other)
rule_step (rule.Let name value body) = source.Let (name_of name) (term_of value) body.value
rule_step (rule.Forall name over test body) = source.Forall (name_of name) (name_of over) (test_of test) body.value
rule_step (rule.Choose name over test body other) = source.Choose (name_of name) (name_of over) (test_of test) body.value (branch_of other)
rule_step (rule.Iterate body) = source.Iterate body.value
rule_step (rule.While test body) = source.While (term_of test) body.value
rule_step (rule.SetResult name value) = source.SetResult (name_of name) (term_of value)

abbrev pub rule_of : Rule → source.Rule
rule_of = fold-Rule source.Rule rule_step

-- ---- declarations

abbrev pub const_of : Const → source.Const
const_of (const.Plain l) = source.Plain l
const_of (const.Element name) = source.Element (name_of name)

abbrev pub entry_of : Entry → source.Entry
entry_of e = record { at = e.at; arguments = map const_of e.arguments.items; value = const_of e.value }

abbrev pub given_of : Given → source.Given
given_of (given.Each c) = source.Each (const_of c)
given_of (given.Entries entries) = source.Entries (map entry_of entries.items)

abbrev pub item_of : Item → source.Item
item_of (item.Uses name) = source.Uses (name_of name)
item_of (item.Init name) = source.Init (name_of name)
item_of (item.Enum name elements) = source.Enum (name_of name) (map name_of elements.items)
item_of (item.Universe name first last) = source.Universe (name_of name) first last
item_of (item.Function name kind domain codomain table) = source.Function (name_of name) kind (map name_of domain.items) (option_map name_of codomain) (option_map given_of table)
item_of (item.Derived name parameters body) = source.Derived (name_of name) (map name_of parameters.items) (term_of body)
item_of (item.Rule name parameters body) = source.NamedRule (name_of name) (map name_of parameters.items) (rule_of body)

abbrev pub spec_of : Spec → source.Spec
spec_of s = record { name = name_of s.name; items = map item_of s.items.items; length = s.length }
