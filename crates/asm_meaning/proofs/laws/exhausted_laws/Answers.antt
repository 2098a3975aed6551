use Rattle.asm_meaning.proofs.BesideLemmas.ExhaustedLaws.{exhausted_laws}
use Rattle.asm_meaning.proofs.laws.exhausted_laws.Goals as goal

pub returns : goal.returns
returns c = exhausted_laws
