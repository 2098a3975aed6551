use Rattle.asm_check.proofs.AllFaults.{least_exists}
use Rattle.asm_check.proofs.laws.least_exists.Goals as goal

pub returns : goal.returns
returns c = least_exists
