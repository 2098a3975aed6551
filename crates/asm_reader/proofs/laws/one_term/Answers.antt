use Rattle.std.proofs.Common.{List, subst}
use Rattle.asm_syntax.specs.declared.token.Token.{Token}
use Rattle.asm_reader.specs.TermGrammar.{any_term}
use Rattle.asm_reader.proofs.TermSpellings.{one_term_of_tokens}
use Rattle.asm_reader.proofs.laws.one_term.Goals as goal

pub returns : goal.returns
returns c text s t h k = one_term_of_tokens text k.0 s t (subst (λ (ts : List Token). any_term text ts s) (c.one_list_of_tokens.ensures text h.0 k.0 h.1 k.1) h.2.0) k.2.0
