use Rattle.std.proofs.Common.{◌∙◌, sym}
use Rattle.std.proofs.lemmas.Bool.{eqb-false}
use Rattle.asm_explore.proofs.StateLemmas.Bytes.{other_content}
use Rattle.asm_explore.proofs.states.byte.is_of.Goals as goal

pub returns-clause-other : goal.returns-clause-other
returns-clause-other c = λ no.
    other_content c.args.byte c.args.word c.ranges.byte.fits
    (λ alike. eqb-false c.code_of.result c.code.result no (c.code_of.ensures ∙ alike ∙ sym c.code.ensures.code))
