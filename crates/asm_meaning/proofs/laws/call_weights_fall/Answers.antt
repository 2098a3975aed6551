use Rattle.asm_meaning.proofs.Weights.{call_weights_fall}
use Rattle.asm_meaning.proofs.laws.call_weights_fall.Goals as goal

pub returns : goal.returns
returns c = call_weights_fall
