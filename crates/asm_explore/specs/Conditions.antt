-- Definition. Conditions on states.
--     condition_holds spec t A     the condition is true in a state, or there is none
use Rattle.std.specs.Prelude.{Bool, Option, option_map}
use Rattle.asm_state.specs.Location.{State}
use Rattle.asm_syntax.specs.PlainTree.{plain_term}
use Rattle.asm_syntax.specs.SourceTree.{Spec, Term}
use Rattle.asm_meaning.specs.Declarations.{program_of}
use Rattle.asm_meaning.specs.Program.{nothing_bound}
use Rattle.asm_meaning.specs.Value.{holds}

-- with no name bound
abbrev pub condition_holds : Spec → Option Term → State → Bool
condition_holds s t A = holds (program_of s) A nothing_bound (option_map plain_term t)
