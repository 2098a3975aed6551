use Rattle.asm_eval.proofs.OpeningLaws.{opening_laws}
use Rattle.asm_eval.proofs.laws.opening_laws.Goals as goal

pub returns : goal.returns
returns g c = λ evaluation. opening_laws evaluation
