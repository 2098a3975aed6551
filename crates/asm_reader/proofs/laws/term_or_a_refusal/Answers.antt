use Rattle.asm_reader.proofs.EachText.{term_or_a_refusal}
use Rattle.asm_reader.proofs.laws.term_or_a_refusal.Goals as goal

pub returns : goal.returns
returns c text = term_or_a_refusal text (c.tokens_or_a_fault.ensures text)
