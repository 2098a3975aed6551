-- Definition. What a specification declares, in the terms of programs.
--     program_of spec            its declarations, by name
--     specification_of spec      with the initial state, and the body of the rule that it starts
--                                with
use Rattle.std.specs.Prelude.{◌≡◌, ℕ, List, [], ◌∷◌, map, slice_get, Option, Some, None, option_map}
use Rattle.std.specs.List.{filter_map}
use Rattle.asm_state.specs.declared.function.Function as state
use Rattle.asm_state.specs.declared.function.FunctionKind.{FunctionKind}
use Rattle.asm_state.specs.declared.function.FunctionKind.TheVariants as kind
use Rattle.asm_state.specs.Signature.{Shape, domain_in, initial_state}
use Rattle.asm_state.specs.Universe.{element}
use Rattle.asm_syntax.specs.SourceTree as source
use Rattle.asm_syntax.specs.Tree.{Name, Rule, Skip}
use Rattle.asm_syntax.specs.PlainTree.{plain_term, plain_rule}
use Rattle.asm_check.specs.Faults.{inits}
use Rattle.asm_check.specs.Names as names
use Rattle.asm_check.specs.Names.{Meaning, Declaration, declarations, text_of}
use Rattle.asm_check.specs.Numbers.{derived_of, rules_of, declared_with_number, named}
use Rattle.asm_check.specs.Shapes.{shape_of}
use Rattle.asm_check.specs.declared.checked.NameNumber.{NameNumber}
use Rattle.asm_check.specs.declared.checked.NameNumber.TheVariants as number
use Rattle.asm_meaning.specs.Program.{Program, Declared, Universe, Enumerated, Controlled, Static, Derived, NamedRule, declared}
use Rattle.asm_meaning.specs.Run.{Specification}

abbrev pub held_as : Shape → ℕ → state.Function → FunctionKind → Declared
held_as shape f it kind.Controlled = Controlled f (domain_in shape.universes it.domain)
held_as shape f it kind.Static = Static (domain_in shape.universes it.domain) it.table

-- a controlled or static function, by its number
abbrev pub function_at : Shape → ℕ → Option state.Function → Option Declared
function_at shape f None = None
function_at shape f (Some it) = Some (held_as shape f it it.kind)

-- a derived function or a rule
abbrev pub body_of : Option Meaning → Option Declared
body_of (Some (names.Derived xs t)) = Some (Derived (map text_of xs) (plain_term t))
body_of (Some (names.NamedRule xs P)) = Some (NamedRule (map text_of xs) (plain_rule P))
body_of m = None

-- what a number stands for
abbrev pub numbered : source.Spec → Option NameNumber → Option Declared
numbered spec None = None
numbered spec (Some (number.Universe n)) = option_map Universe (slice_get (shape_of spec).universes n)
numbered spec (Some (number.Element n)) = Some (Enumerated (element n))
numbered spec (Some (number.Function f)) = function_at (shape_of spec) f (slice_get (shape_of spec).functions f)
numbered spec (Some (number.Derived d)) = body_of (declared_with_number (derived_of spec) d)
numbered spec (Some (number.Rule r)) = body_of (declared_with_number (rules_of spec) r)

abbrev pub declared_in_program : source.Spec → Name → Option Declared
declared_in_program spec x = numbered spec (named spec x)

-- the number of a universe
abbrev pub universe_number : Option NameNumber → Option ℕ
universe_number (Some (number.Universe n)) = Some n
universe_number it = None

-- that of a controlled or static function, and of a rule
abbrev pub function_number : Option NameNumber → Option ℕ
function_number (Some (number.Function f)) = Some f
function_number it = None

abbrev pub rule_number : Option NameNumber → Option ℕ
rule_number (Some (number.Rule r)) = Some r
rule_number it = None

abbrev pub paired : source.Spec → Declaration → Option (Name × Declared)
paired spec d = option_map (λ it. (d.name.text, it)) (declared_in_program spec d.name.text)

unfoldable pub program_of : source.Spec → Program
program_of spec = filter_map (paired spec) (declarations spec)

-- a name is declared as what its number stands for
abbrev pub ProgramDeclares : Type 0
ProgramDeclares = (spec : source.Spec) (x : Name) → declared (program_of spec) x ≡ declared_in_program spec x

abbrev pub rule_body : Option Declared → Rule
rule_body (Some (NamedRule xs P)) = P
rule_body it = Skip

-- the body of the rule that the first `init` names
abbrev pub main_rule : source.Spec → List source.Name → Rule
main_rule spec [] = Skip
main_rule spec (x ∷ more) = rule_body (declared (program_of spec) x.text)

abbrev pub specification_of : source.Spec → Specification
specification_of spec = record { program = program_of spec; initial = initial_state (shape_of spec); main = main_rule spec (inits spec) }
