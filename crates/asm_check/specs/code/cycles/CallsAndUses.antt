-- Bridge to the code. Calls of rules and uses of derived functions together: a rule leads to rules
-- alone, and a derived function to derived functions.
use Rattle.std.specs.Prelude.{List, ◌++◌}
use Rattle.asm_syntax.specs.SourceTree.{Spec}
use Rattle.asm_check.specs.Names.{Text}
use Rattle.asm_check.specs.CallGraph.{called, used}

unfoldable pub called_or_used : Spec → Text → List Text
called_or_used spec f = called spec f ++ used spec f
