use Rattle.std.proofs.Common.{◌≡◌, map, length, take}
use Rattle.asm_check.specs.code.names.Tables.{declaration_of}
use Rattle.asm_check.proofs.LimitLemmas.ElementCounts.{AreCountsOf}
use Rattle.asm_check.proofs.limits.limit_faults.element_counts.Given as goal

abbrev pub invariant-loop-i : goal.invariant-loop-i
invariant-loop-i l = record {
  length : length l.counts.items ≡ length l.spec.items.items;
  counts : AreCountsOf (take l.i (map declaration_of l.names)) l.counts.items;
}
