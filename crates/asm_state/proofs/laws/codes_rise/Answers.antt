use Rattle.asm_state.proofs.Codes.{codes_rise}
use Rattle.asm_state.proofs.laws.codes_rise.Goals as goal

pub returns : goal.returns
returns c = codes_rise
