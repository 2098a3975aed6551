use Rattle.std.proofs.Common.{◌≡◌, map, take}
use Rattle.asm_syntax.specs.code.Views.{spec_of}
use Rattle.asm_check.specs.code.limits.CountedSizes.{AreTotals}
use Rattle.asm_check.specs.Errors.{found_of}
use Rattle.asm_check.specs.code.names.Tables.{declaration_of}
use Rattle.asm_check.proofs.LimitLemmas.LimitSteps.{found_after}
use Rattle.asm_check.proofs.limits.limit_faults.note_limits.Given as goal

abbrev pub invariant-loop-i : goal.invariant-loop-i
invariant-loop-i l = record {
  totals : AreTotals (spec_of l.spec) (take l.i (map declaration_of l.names)) l.totals;
  found : found_after (spec_of l.spec) (map declaration_of l.names) l.i (found_of l.least.found)
      ≡ found_after (spec_of l.spec) (map declaration_of l.names) 0 (found_of l.initial.least.found);
}
