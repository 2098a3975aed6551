use Rattle.std.proofs.Common.{List, subst}
use Rattle.asm_syntax.specs.declared.token.Token.{Token}
use Rattle.asm_reader.specs.Grammar.{specification}
use Rattle.asm_reader.proofs.Spellings.{one_tree_of_tokens}
use Rattle.asm_reader.proofs.laws.one_tree.Goals as goal

pub returns : goal.returns
returns c text s t h k = one_tree_of_tokens text k.0 s t (subst (λ (ts : List Token). specification text ts s) (c.one_list_of_tokens.ensures text h.0 k.0 h.1 k.1) h.2.0) k.2.0
