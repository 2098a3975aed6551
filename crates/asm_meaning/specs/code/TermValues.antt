-- Bridge to the code. What is declared, conditions and branches of the code, and values of names.
--     program checked           what the specification declares
--     branch other              a branch of the code, which may be left out
--     condition test            a condition of the code, if there is one
--     held it vs A              the value of a function that is held in the state, or in a table
--     declared_value            the value of a name that isn't bound
use Rattle.std.specs.Prelude.{List, Option, Some, None, option_map}
use Rattle.std.proofs.Common.{Box, Global}
use Rattle.asm_state.specs.declared.value.Value.{Value}
use Rattle.asm_state.specs.declared.value.Value.TheVariants.{Undef}
use Rattle.asm_state.specs.Location.{State}
use Rattle.asm_state.specs.Tables.{location_in, value_in}
use Rattle.asm_syntax.specs.SourceTree as source
use Rattle.asm_syntax.specs.code.Views.{test_of, rule_of, spec_of}
use Rattle.asm_syntax.specs.PlainTree.{plain_term}
use Rattle.asm_syntax.specs.Tree as tree
use Rattle.asm_syntax.specs.declared.rule.Rule.{Rule}
use Rattle.asm_syntax.specs.declared.term.Term.{Term}
use Rattle.asm_check.specs.declared.checked.Checked.{Checked}
use Rattle.asm_meaning.specs.Program.{Program, Declared, Enumerated, Controlled, Static, Derived, bind_values}
use Rattle.asm_meaning.specs.Value.{value, read}
use Rattle.asm_meaning.specs.Declarations.{program_of}

abbrev pub program : Checked → Program
program checked = program_of (spec_of checked.spec)

abbrev pub branch : Option (Box Rule Global) → source.Branch
branch None = source.left_out
branch (Some P) = source.written (rule_of P.value)

abbrev pub condition : Option Term → Option tree.Term
condition test = option_map plain_term (test_of test)

-- a function that is held in the state, or a table
abbrev pub held : Option Declared → List Value → State → Value
held (Some (Controlled f domain)) vs A = read A (location_in f domain vs)
held (Some (Static domain table)) vs A = value_in domain table vs
held it vs A = Undef

-- a name that isn't bound, with the values of its arguments
abbrev pub declared_value : Program → State → Option Declared → List Value → Value
declared_value program A (Some (Enumerated v)) vs = v
declared_value program A (Some (Derived xs t)) vs = value program A (bind_values xs vs) t
declared_value program A it vs = held it vs A
