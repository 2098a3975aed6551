use Rattle.asm_syntax.proofs.TokenOffsets as offsets
use Rattle.asm_syntax.proofs.laws.tokens_in_order.Goals as goal

pub returns : goal.returns
returns c = offsets.tokens_in_order
