use Rattle.std.proofs.Common.{length}
use Rattle.asm_state.proofs.argument_lists.+list_count.Given as goal

abbrev pub decreases-list_count : goal.decreases-list_count
decreases-list_count l = length l.domain.now
