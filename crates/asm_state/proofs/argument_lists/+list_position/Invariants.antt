use Rattle.std.proofs.Common.{length}
use Rattle.asm_state.proofs.argument_lists.+list_position.Given as goal

abbrev pub decreases-list_position : goal.decreases-list_position
decreases-list_position l = length l.domain.now
