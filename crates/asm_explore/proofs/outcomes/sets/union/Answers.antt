use Rattle.std.proofs.Common.{subst, sym}
use Rattle.asm_state.specs.Updates.{together}
use Rattle.asm_updates.specs.code.Stands.{Stands}
use Rattle.asm_explore.proofs.OutcomeLemmas.ListLemmas.{union_shows}
use Rattle.asm_explore.proofs.outcomes.sets.union.Goals as goal

pub returns-clause-rule_result : goal.returns-clause-rule_result
returns-clause-rule_result c = λ shape x y.
    union_shows shape c.args.left.now c.args.right.now c.in_ok-both-2.both
    (λ U V h g. c.in_ok-both-2.ensures.stands shape (together U V) (c.in_ok-both.ensures.union shape U V (subst (λ s. Stands shape s U) (sym c.in_ok-again.ensures) h) g)) x y
