use Rattle.asm_run.proofs.Ends.{results_tell}
use Rattle.asm_run.proofs.laws.results_tell.Goals as goal

pub returns : goal.returns
returns c = results_tell
