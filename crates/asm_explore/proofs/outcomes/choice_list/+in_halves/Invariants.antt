use Rattle.std.proofs.Common.{length}
use Rattle.asm_explore.proofs.outcomes.choice_list.+in_halves.Given as goal

abbrev pub decreases-in_halves : goal.decreases-in_halves
decreases-in_halves l = length l.chains.now
