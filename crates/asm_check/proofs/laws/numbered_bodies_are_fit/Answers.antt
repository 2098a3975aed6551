use Rattle.asm_check.proofs.NumberLemmas.NumberedBodies.{numbered_bodies_are_fit}
use Rattle.asm_check.proofs.laws.numbered_bodies_are_fit.Goals as goal

pub returns : goal.returns
returns c = numbered_bodies_are_fit
