use Rattle.asm_meaning.proofs.Stories.{told_by_cases}
use Rattle.asm_meaning.proofs.laws.told_by_cases.Goals as goal

pub returns : goal.returns
returns c = told_by_cases
