use Rattle.std.proofs.Common.{◌≡◌, ◌++◌, take}
use Rattle.asm_clash.proofs.bound_values.+push_bound.Given as goal

abbrev pub invariant-loop-i : goal.invariant-loop-i
invariant-loop-i l = l.values.items ≡ l.initial.values.items ++ take l.i l.own.now
