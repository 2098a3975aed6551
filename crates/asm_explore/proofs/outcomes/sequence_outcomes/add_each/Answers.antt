use Rattle.std.proofs.Common.{◌≤◌, ◌<◌, ◌+◌, length}
use Rattle.asm_explore.proofs.OutcomeLemmas.FullLists.{too_many_on, crowd_added}
use Rattle.asm_explore.proofs.OutcomeLemmas.SequenceOutcomes.{adds_none, adds_more}
use Rattle.asm_explore.proofs.outcomes.sequence_outcomes.add_each.Goals as goal

pub loop-i-preserved : goal.loop-i-preserved
loop-i-preserved c =
    let a = c.args in
    let l = c.loop-i in
    adds_more a.more.now l.i c.index-more-i.result c.in_ok-one.one a.done.now.items l.done.items c.add_outcome.new.found.items
    c.loop-i-test.true c.index-more-i.is c.in_ok-one.ensures.choices (λ n. c.in_ok-one.ensures.counted n) c.in_ok-one.ensures.shows c.in_ok-add_outcome.ensures.grows l.invariant

pub loop-i-init : goal.loop-i-init
loop-i-init c = adds_none c.args.more.now c.args.done.now.items

pub returns-in_err-add_outcome-clause-crowd : goal.returns-in_err-add_outcome-clause-crowd
returns-in_err-add_outcome-clause-crowd c =
    let a = c.args in
    let l = c.loop-i in
    too_many_on (a.limit ≤ length l.done.items) (a.limit < length a.done.now.items + length a.more.now)
    c.from_residual-in_err-add_outcome.result c.in_err-add_outcome.field-0.0 c.from_residual-in_err-add_outcome.ensures.1
    (crowd_added a.limit a.more.now l.i c.loop-i-test.true l.done.items a.done.now.items l.invariant.chosen)
    c.in_err-add_outcome.ensures.full
