use Rattle.std.proofs.Common.{length}
use Rattle.asm_state.proofs.argument_lists.+push_list.Given as goal

abbrev pub decreases-push_list : goal.decreases-push_list
decreases-push_list l = length l.domain.now
