use Rattle.asm_check.proofs.CheckedCalls.{named_in_range}
use Rattle.asm_check.proofs.laws.named_in_range.Goals as goal

pub returns : goal.returns
returns c = named_in_range
