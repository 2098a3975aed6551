use Rattle.std.proofs.Common.{◌≡◌}
use Rattle.asm_tests.proofs.striped.put_thousand.Given as goal

abbrev pub invariant-loop-i : goal.invariant-loop-i
invariant-loop-i l = (l.seat.table ≡ l.initial.seat.table) × (l.seat.parts ≡ l.initial.seat.parts)
