use Rattle.asm_state.proofs.UpdateLemmas.Faults.{fault_laws}
use Rattle.asm_state.proofs.laws.fault_laws.Goals as goal

pub returns : goal.returns
returns c = fault_laws
