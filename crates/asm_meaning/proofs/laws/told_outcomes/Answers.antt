use Rattle.asm_meaning.proofs.Stories.{told_outcomes}
use Rattle.asm_meaning.proofs.laws.told_outcomes.Goals as goal

pub returns : goal.returns
returns c = told_outcomes
