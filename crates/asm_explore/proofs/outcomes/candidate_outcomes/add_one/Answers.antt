use Rattle.asm_explore.proofs.OutcomeLemmas.ListLemmas.{picked_one}
use Rattle.asm_explore.proofs.outcomes.candidate_outcomes.add_one.Goals as goal

pub returns-clause-picks : goal.returns-clause-picks
returns-clause-picks c =
    let a = c.args in
    picked_one a.path.now a.number a.one a.found.now.items c.add_outcome.new.found.items c.in_ok-chosen.chosen c.in_ok-chosen.ensures.choices
    (λ n. c.in_ok-chosen.ensures.counted n) (λ shape r. c.in_ok-chosen.ensures.shows shape r) c.in_ok-add_outcome.ensures.grows
