use Rattle.std.proofs.Common.{◌≡◌}
use Rattle.asm_tests.proofs.striped.opens_and_closes.Given as goal

abbrev pub invariant-loop-n : goal.invariant-loop-n
invariant-loop-n l = (l.seat.table ≡ l.table.table) × (l.seat.parts ≡ l.table.parts) × (l.table.count ≡ 20)
