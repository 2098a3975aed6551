use Rattle.asm_meaning.proofs.BesideLemmas.OutcomesBeside.{grouping_laws}
use Rattle.asm_meaning.proofs.laws.grouping_laws.Goals as goal

pub returns : goal.returns
returns c = grouping_laws
