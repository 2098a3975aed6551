use Rattle.asm_syntax.proofs.EachText as texts
use Rattle.asm_syntax.proofs.laws.tokens_or_a_fault.Goals as goal

pub returns : goal.returns
returns c = texts.tokens_or_a_fault
