use Rattle.asm_syntax.proofs.OneLexResult as answers
use Rattle.asm_syntax.proofs.laws.no_tokens_beside_a_fault.Goals as goal

pub returns : goal.returns
returns c = answers.no_tokens_beside_a_fault
