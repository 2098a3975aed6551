-- Bridge to the code. How parts of trees that are no trees by themselves are seen.
--     names_of, link_of            two names;  a link of a chain
--     applied_of, quantified_of    a name with its arguments;  a binding with its test
--     ranged_of                    a binding with its condition
--     declared_of, heading_of      a name with how the values of its function come;  one with
--                                  parameters
--     in_box, boxed_rule_of        a rule in a box;  one that may be left out
--     type_of                      the universes and the codomain of a function
use Rattle.std.specs.Prelude.{List, map, Option, Some, None, option_map}
use Rattle.std.proofs.Common.{Box, Vec, Global}
use Rattle.asm_state.specs.declared.function.FunctionKind.{FunctionKind}
use Rattle.asm_state.specs.declared.operation.Op.{Op}
use Rattle.asm_syntax.specs.declared.name.Name.{Name}
use Rattle.asm_syntax.specs.declared.term.Term.{Term}
use Rattle.asm_syntax.specs.declared.rule.Rule.{Rule}
use Rattle.asm_syntax.specs.SourceTree as source
use Rattle.asm_syntax.specs.code.Views.{name_of, term_of, terms_of, test_of, rule_of}

abbrev pub names_of : Name × Name → source.Name × source.Name
names_of r = (name_of r.0, name_of r.1)

abbrev pub link_of : Op × Term → Op × source.Term
link_of l = (l.0, term_of l.1)

abbrev pub applied_of : Name × Vec Term Global → source.Name × source.Terms
applied_of r = (name_of r.0, terms_of (map term_of r.1.items))

abbrev pub quantified_of : Name × Name × Box Term Global → (source.Name × source.Name) × source.Term
quantified_of r = ((name_of r.0, name_of r.1), term_of r.2.value)

abbrev pub ranged_of : (Name × Name) × Option Term → (source.Name × source.Name) × Option source.Term
ranged_of r = (names_of r.0, test_of r.1)

abbrev pub in_box : Box Rule Global → source.Rule
in_box P = rule_of P.value

abbrev pub boxed_rule_of : Option (Box Rule Global) → Option source.Rule
boxed_rule_of None = None
boxed_rule_of (Some P) = Some (rule_of P.value)

abbrev pub declared_of : FunctionKind × Name → FunctionKind × source.Name
declared_of r = (r.0, name_of r.1)

abbrev pub heading_of : Name × Vec Name Global → source.Name × List source.Name
heading_of r = (name_of r.0, map name_of r.1.items)

abbrev pub type_of : Vec Name Global × Option Name → List source.Name × Option source.Name
type_of t = (map name_of t.0.items, option_map name_of t.1)
