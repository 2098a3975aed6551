use Rattle.asm_meaning.proofs.Cases.{scripted_by_cases}
use Rattle.asm_meaning.proofs.laws.scripted_by_cases.Goals as goal

pub returns : goal.returns
returns c = scripted_by_cases
