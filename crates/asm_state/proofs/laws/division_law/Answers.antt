use Rattle.asm_state.proofs.Division.{division_law}
use Rattle.asm_state.proofs.laws.division_law.Goals as goal

pub returns : goal.returns
returns c = division_law
