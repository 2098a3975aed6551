use Rattle.std.proofs.Common.{◌≡◌, ◌++◌, take}
use Rattle.asm_run.specs.Trace.{numbers_text}
use Rattle.asm_run.proofs.locations.push_numbers.Given as goal

abbrev pub invariant-loop-i : goal.invariant-loop-i
invariant-loop-i l = l.out.items ≡ l.fn.out.items ++ numbers_text l.fn.first (take l.i l.rest)
