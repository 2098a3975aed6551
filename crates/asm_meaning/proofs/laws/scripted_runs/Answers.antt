use Rattle.asm_meaning.proofs.Run.{scripted_runs}
use Rattle.asm_meaning.proofs.laws.scripted_runs.Goals as goal

pub returns : goal.returns
returns c = scripted_runs
