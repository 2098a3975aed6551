use Rattle.asm_code.proofs.RuleStories.{code_outcomes}
use Rattle.asm_code.proofs.laws.code_outcomes.Goals as goal

pub returns : goal.returns
returns c = code_outcomes
