use Rattle.std.proofs.Common.{◌≡◌, List, subst, sym, ◌∙◌}
use Rattle.asm_syntax.specs.declared.token.Token.{Token}
use Rattle.asm_reader.specs.TermText.{AreTerm}
use Rattle.asm_reader.proofs.term_reading.read_term.Goals as goal

pub returns-in-Err-Named-clause-accepted : goal.returns-in-Err-Named-clause-accepted
returns-in-Err-Named-clause-accepted c t k = let e = c.in-Err-Named.ensures.accepted k.0 k.1 in absurd (cc (e, c.in-Err-Named.field-0-is))

pub returns-clause-accepted : goal.returns-clause-accepted
returns-clause-accepted c t k =
    let same : k.0 ≡ c.as_slice.result.now = c.one_list_of_tokens.ensures c.args.text.now k.0 c.in-Ok.tokens.items k.1 c.in-Ok.ensures.found ∙ sym c.as_slice.ensures.value in
    c.read_term_tokens.ensures.accepted t (subst (λ (ts : List Token). AreTerm c.args.text.now ts t) same k.2)
