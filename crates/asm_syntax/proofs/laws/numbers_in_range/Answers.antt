use Rattle.asm_syntax.proofs.TokenOffsets as offsets
use Rattle.asm_syntax.proofs.laws.numbers_in_range.Goals as goal

pub returns : goal.returns
returns c = offsets.numbers_in_range
