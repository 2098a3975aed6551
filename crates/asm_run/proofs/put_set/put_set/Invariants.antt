use Rattle.std.specs.Prelude.{take}
use Rattle.asm_run.specs.code.Hands.{LogGrows, puts}
use Rattle.asm_run.proofs.put_set.put_set.Given as goal

-- the entries so far are put
abbrev pub invariant-loop-i : goal.invariant-loop-i
invariant-loop-i l = LogGrows l.initial.seat (puts l.task (take l.i l.set.ranges)) l.seat
