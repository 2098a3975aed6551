use Rattle.asm_meaning.proofs.LongerRuns.{run_laws}
use Rattle.asm_meaning.proofs.laws.run_laws.Goals as goal

pub returns : goal.returns
returns c = run_laws
