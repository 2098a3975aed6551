use Rattle.std.proofs.Common.{subst, sym}
use Rattle.asm_state.specs.Updates.{merge}
use Rattle.asm_updates.specs.code.Stands.{Stands}
use Rattle.asm_explore.proofs.outcomes.sets.merged.Goals as goal

pub returns-clause-merges : goal.returns-clause-merges
returns-clause-merges c = λ shape U V h g.
    c.in_ok-both-2.ensures.stands shape (merge U V) (c.in_ok-both.ensures.merges shape U V (subst (λ s. Stands shape s U) (sym c.in_ok-again.ensures) h) g)
