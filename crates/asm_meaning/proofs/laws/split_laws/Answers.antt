use Rattle.asm_meaning.proofs.BesideLemmas.PartsBeside.{split_laws}
use Rattle.asm_meaning.proofs.laws.split_laws.Goals as goal

pub returns : goal.returns
returns c = split_laws
