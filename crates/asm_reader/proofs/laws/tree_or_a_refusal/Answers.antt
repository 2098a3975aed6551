use Rattle.asm_reader.proofs.EachText.{tree_or_a_refusal}
use Rattle.asm_reader.proofs.laws.tree_or_a_refusal.Goals as goal

pub returns : goal.returns
returns c text = tree_or_a_refusal text (c.tokens_or_a_fault.ensures text)
