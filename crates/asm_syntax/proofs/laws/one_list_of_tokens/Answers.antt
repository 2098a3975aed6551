use Rattle.asm_syntax.proofs.OneLexResult as answers
use Rattle.asm_syntax.proofs.laws.one_list_of_tokens.Goals as goal

pub returns : goal.returns
returns c = answers.one_list_of_tokens
