use Rattle.asm_meaning.proofs.BesideLemmas.PartsBeside.{beside_laws}
use Rattle.asm_meaning.proofs.laws.beside_laws.Goals as goal

pub returns : goal.returns
returns c = beside_laws
