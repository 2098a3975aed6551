use Rattle.asm_explore.proofs.OutcomeLemmas.ListLemmas.{shows_ordered}
use Rattle.asm_explore.proofs.outcomes.candidate_outcomes.ordered.Goals as goal

pub returns-in_ok-set-in-Set-clause-shows : goal.returns-in_ok-set-in-Set-clause-shows
returns-in_ok-set-in-Set-clause-shows c = λ shape r.
    shows_ordered shape c.args.answer c.in-Set.set c.in_ok-set-in-Set.set r c.in-Set.is (λ U. c.in_ok-set-in-Set.ensures.stands shape U)
