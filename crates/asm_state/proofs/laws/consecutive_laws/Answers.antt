use Rattle.asm_state.proofs.ConsecutiveCodes.{consecutive_laws}
use Rattle.asm_state.proofs.laws.consecutive_laws.Goals as goal

pub returns : goal.returns
returns c = consecutive_laws
