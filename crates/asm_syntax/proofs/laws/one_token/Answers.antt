use Rattle.asm_syntax.proofs.OneToken as pieces
use Rattle.asm_syntax.proofs.laws.one_token.Goals as goal

pub returns : goal.returns
returns c = pieces.one_token
