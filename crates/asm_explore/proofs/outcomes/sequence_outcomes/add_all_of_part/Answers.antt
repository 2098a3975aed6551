use Rattle.std.proofs.Common.{◌≤◌, ◌<◌, ◌+◌, ◌++◌, length, max}
use Rattle.asm_explore.proofs.OutcomeLemmas.FullLists.{too_many_on, crowd_longer}
use Rattle.asm_explore.proofs.OutcomeLemmas.SequenceOutcomes.{sorted_none, sorted_more}
use Rattle.asm_explore.proofs.outcomes.sequence_outcomes.add_all_of_part.Goals as goal

pub loop-i-preserved : goal.loop-i-preserved
loop-i-preserved c =
    let a = c.args in
    let l = c.loop-i in
    sorted_more a.signature.now a.turns a.so_far.now.set a.choices.now a.part.now l.i c.index-part-i.result a.sorted.now l.sorted c.add_one_of_part.new.sorted
    c.loop-i-test.true c.index-part-i.is c.in_ok-add_one_of_part.ensures.sorts l.invariant

pub loop-i-init : goal.loop-i-init
loop-i-init c =
    let a = c.args in
    sorted_none a.signature.now a.turns a.so_far.now.set a.choices.now a.part.now a.sorted.now

pub returns-in_err-add_one_of_part-clause-crowd : goal.returns-in_err-add_one_of_part-clause-crowd
returns-in_err-add_one_of_part-clause-crowd c =
    let a = c.args in
    let l = c.loop-i in
    too_many_on (a.limit ≤ max (length l.sorted.done.items) (length l.sorted.more.items)) (a.limit < max (length a.sorted.now.done.items) (length a.sorted.now.more.items) + length a.part.now)
    c.from_residual.result c.in_err-add_one_of_part.field-0.0 c.from_residual.ensures.1
    (crowd_longer a.limit a.part.now l.i c.loop-i-test.true (λ ds. a.choices.now ++ ds) l.sorted a.sorted.now l.invariant.done_chosen l.invariant.more_chosen)
    c.in_err-add_one_of_part.ensures.crowd
