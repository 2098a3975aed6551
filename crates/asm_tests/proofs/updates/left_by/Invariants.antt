use Rattle.std.proofs.Common.{◌≡◌}
use Rattle.asm_tests.proofs.updates.left_by.Given as goal

abbrev pub invariant-loop-one : goal.invariant-loop-one
invariant-loop-one l = l.summary.count ≡ l.count
