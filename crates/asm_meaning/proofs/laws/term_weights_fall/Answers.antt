use Rattle.asm_meaning.proofs.Weights.{term_weights_fall}
use Rattle.asm_meaning.proofs.laws.term_weights_fall.Goals as goal

pub returns : goal.returns
returns c = term_weights_fall
