use Rattle.asm_state.proofs.StatesByNumbers.{state_laws}
use Rattle.asm_state.proofs.laws.state_laws.Goals as goal

pub returns : goal.returns
returns c = state_laws
