use Rattle.std.proofs.Common.{◌≡◌}
use Rattle.asm_tests.proofs.plain.add_all.Given as goal

abbrev pub invariant-loop-n : goal.invariant-loop-n
invariant-loop-n l = l.summary.count ≡ l.initial.summary.count
