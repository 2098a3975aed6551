use Rattle.asm_reader.proofs.Spellings.{one_tree_of_tokens}
use Rattle.asm_reader.proofs.laws.one_tree_of_tokens.Goals as goal

pub returns : goal.returns
returns c = one_tree_of_tokens
