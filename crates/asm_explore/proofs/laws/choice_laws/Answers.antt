use Rattle.asm_explore.proofs.OutcomeLemmas.ChoiceLawOfLists.{choice_laws}
use Rattle.asm_explore.proofs.laws.choice_laws.Goals as goal

pub returns : goal.returns
returns c = choice_laws
