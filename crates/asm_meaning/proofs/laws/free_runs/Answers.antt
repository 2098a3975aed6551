use Rattle.asm_meaning.proofs.Run.{free_runs}
use Rattle.asm_meaning.proofs.laws.free_runs.Goals as goal

pub returns : goal.returns
returns c = free_runs
