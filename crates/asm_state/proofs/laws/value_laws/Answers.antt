use Rattle.asm_state.proofs.ValueLaws.{value_laws}
use Rattle.asm_state.proofs.laws.value_laws.Goals as goal

pub returns : goal.returns
returns c = value_laws
