use Rattle.std.proofs.Common.{◌≡◌, replicate, None}
use Rattle.asm_pool.proofs.gather.Slots.new.Given as goal

abbrev pub invariant-loop-i : goal.invariant-loop-i
invariant-loop-i g l = l.outs.items ≡ replicate l._i None
