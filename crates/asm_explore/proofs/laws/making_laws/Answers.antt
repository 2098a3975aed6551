use Rattle.asm_explore.proofs.ChoiceLemmas.TakenStories.{making_laws}
use Rattle.asm_explore.proofs.laws.making_laws.Goals as goal

pub returns : goal.returns
returns c = making_laws
