use Rattle.asm_meaning.proofs.TermCases.{valued_by_cases}
use Rattle.asm_meaning.proofs.laws.valued_by_cases.Goals as goal

pub returns : goal.returns
returns c = valued_by_cases
