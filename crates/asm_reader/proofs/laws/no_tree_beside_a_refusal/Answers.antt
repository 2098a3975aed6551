use Rattle.asm_reader.specs.Grammar.{specification}
use Rattle.asm_reader.proofs.OneRefusal.{no_tree_beside_a_refusal}
use Rattle.asm_reader.proofs.laws.no_tree_beside_a_refusal.Goals as goal

pub returns : goal.returns
returns c text = no_tree_beside_a_refusal (specification text) text (c.one_list_of_tokens.ensures text) (c.no_tokens_beside_a_fault.ensures text)
