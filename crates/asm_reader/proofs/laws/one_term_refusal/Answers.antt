use Rattle.asm_reader.specs.TermGrammar.{any_term}
use Rattle.asm_reader.proofs.OneRefusal.{one_refusal}
use Rattle.asm_reader.proofs.laws.one_term_refusal.Goals as goal

pub returns : goal.returns
returns c text = one_refusal (any_term text) text (c.one_list_of_tokens.ensures text) (c.no_tokens_beside_a_fault.ensures text) (c.one_fault.ensures text)
