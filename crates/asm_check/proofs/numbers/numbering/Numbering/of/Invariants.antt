use Rattle.std.proofs.Common.{map, take}
use Rattle.asm_syntax.specs.SourceTree.{Spec}
use Rattle.asm_check.specs.code.numbers.NumberTables.{IsNumberingOf}
use Rattle.asm_check.specs.code.names.Tables.{IsTableOf, declaration_of}
use Rattle.asm_check.proofs.numbers.numbering.Numbering.of.Given as goal

abbrev pub invariant-loop-i : goal.invariant-loop-i
invariant-loop-i l = (spec : Spec) → IsTableOf spec l.names → IsNumberingOf (take l.i (map declaration_of l.names)) l.numbering
