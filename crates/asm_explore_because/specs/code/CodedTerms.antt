-- Bridge to the code. Chains of the code.
--     links_in rest          the links of a chain
use Rattle.std.specs.Prelude.{List, map}
use Rattle.asm_state.specs.declared.operation.Op.{Op}
use Rattle.asm_syntax.specs.SourceTree as source
use Rattle.asm_syntax.specs.code.Views.{term_of}
use Rattle.asm_syntax.specs.declared.term.Term.{Term}

abbrev pub links_in : List (Op × Term) → source.Links
links_in rest = source.links_of (map (λ (l : Op × Term). (l.0, term_of l.1)) rest)
