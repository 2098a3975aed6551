use Rattle.std.proofs.Common.{◌∙◌, ap, sym}
use Rattle.std.proofs.lemmas.Bool.{false≢true}
use Rattle.asm_state.specs.Signature.{location_at}
use Rattle.asm_explore.proofs.search.is_same_state.Goals as goal

pub returns-then-not-is_same_value-clause-states : goal.returns-then-not-is_same_value-clause-states
returns-then-not-is_same_value-clause-states c = λ shape left right same.
    let here = c.content.ensures.location shape left ∙ ap (λ A. A (location_at shape c.loop-n.n)) same ∙ sym (c.content-in-loop-n.ensures.location shape right) in
    absurd (false≢true (sym c.if-not-is_same_value.true ∙ c.is_same_value.ensures.1 here))
