use Rattle.asm_check.proofs.OneLeastFault.{least_is_only}
use Rattle.asm_check.proofs.laws.least_is_only.Goals as goal

pub returns : goal.returns
returns c = least_is_only
