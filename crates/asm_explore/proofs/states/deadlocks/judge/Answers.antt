use Rattle.std.proofs.Common.{◌≡◌, ◌∙◌, true, sym}
use Rattle.std.proofs.lemmas.Bool.{false≢true}
use Rattle.asm_explore.proofs.states.deadlocks.judge.Goals as goal

pub returns-then-not-is_within : goal.returns-then-not-is_within
returns-then-not-is_within g c = λ inside dead. absurd (false≢true (sym c.if-not-is_within.true ∙ c.is_within.ensures ∙ inside))

pub returns-then-may_rest : goal.returns-then-may_rest
returns-then-may_rest g c = λ inside dead. absurd (false≢true (sym dead.1 ∙ sym c.may_rest.ensures ∙ c.if-may_rest.true))

pub returns-in-Ok-true : goal.returns-in-Ok-true
returns-in-Ok-true g c =
    let yes : c.in-Ok-true.field-0 ≡ true = cc in
    (sym c.is_within.ensures ∙ c.if-not-is_within.false, (c.in-Ok-true.ensures.quiet.0 yes, sym c.may_rest.ensures ∙ c.if-may_rest.false))
