use Rattle.asm_state.proofs.BoundLaws.{bound_laws}
use Rattle.asm_state.proofs.laws.bound_laws.Goals as goal

pub returns : goal.returns
returns c = bound_laws
