use Rattle.asm_meaning.proofs.StoriesAlike.{told_alike}
use Rattle.asm_meaning.proofs.laws.told_alike.Goals as goal

pub returns : goal.returns
returns c = told_alike
