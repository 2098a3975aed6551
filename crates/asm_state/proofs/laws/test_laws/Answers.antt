use Rattle.asm_state.proofs.UpdateLemmas.Updates.{test_laws}
use Rattle.asm_state.proofs.laws.test_laws.Goals as goal

pub returns : goal.returns
returns c = test_laws
