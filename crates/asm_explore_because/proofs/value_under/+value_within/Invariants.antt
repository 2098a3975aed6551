use Rattle.std.proofs.Common.{length}
use Rattle.asm_explore_because.proofs.value_under.+value_within.Given as goal

abbrev pub decreases-value_within : goal.decreases-value_within
decreases-value_within l = length l.bound.now
