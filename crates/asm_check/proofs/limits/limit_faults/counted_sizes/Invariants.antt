use Rattle.std.proofs.Common.{map}
use Rattle.asm_check.specs.code.limits.CountedSizes.{size_with}
use Rattle.asm_check.specs.code.names.Tables.{declaration_of}
use Rattle.asm_check.proofs.LimitLemmas.CountedSizes.{AreSizesSoFar}
use Rattle.asm_check.proofs.limits.limit_faults.counted_sizes.Given as goal

abbrev pub invariant-loop-i : goal.invariant-loop-i
invariant-loop-i l = AreSizesSoFar (size_with l.elements) (map declaration_of l.names) l.i l.left l.sizes.items
