use Rattle.asm_state.proofs.Codes.{codes_apart}
use Rattle.asm_state.proofs.laws.codes_apart.Goals as goal

pub returns : goal.returns
returns c = codes_apart
