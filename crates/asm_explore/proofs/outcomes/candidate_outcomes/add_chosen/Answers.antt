use Rattle.std.proofs.Common.{◌≤◌, ◌<◌, ◌+◌, ◌∷◌, [], ◌++◌, length}
use Rattle.asm_explore.proofs.OutcomeLemmas.FullLists.{too_many_on, crowd_found}
use Rattle.asm_explore.proofs.OutcomeLemmas.ListLemmas.{picked_none, picked_more}
use Rattle.asm_explore.proofs.outcomes.candidate_outcomes.add_chosen.Goals as goal

pub loop-i-preserved : goal.loop-i-preserved
loop-i-preserved c =
    let a = c.args in
    let l = c.loop-i in
    picked_more a.path.now a.number a.part.now l.i c.index-part-i.result a.found.now.items l.found.items c.add_outcome.new.found.items c.in_ok-one.one
    c.loop-i-test.true c.index-part-i.is c.in_ok-one.ensures.choices
    (λ n. c.in_ok-one.ensures.counted n) (λ shape r. c.in_ok-one.ensures.shows shape r) c.in_ok-add_outcome.ensures.grows l.invariant

pub loop-i-init : goal.loop-i-init
loop-i-init c = picked_none c.args.path.now c.args.number c.args.part.now c.args.found.now.items

pub returns-in_err-add_outcome-clause-crowd : goal.returns-in_err-add_outcome-clause-crowd
returns-in_err-add_outcome-clause-crowd c =
    let a = c.args in
    let l = c.loop-i in
    too_many_on (a.limit ≤ length l.found.items) (a.limit < length a.found.now.items + length a.part.now)
    c.from_residual-in_err-add_outcome.result c.in_err-add_outcome.field-0.0 c.from_residual-in_err-add_outcome.ensures.1
    (crowd_found a.limit a.part.now l.i c.loop-i-test.true (λ cs. cs ++ record { path = a.path.now; number = a.number } ∷ []) l.found.items a.found.now.items l.invariant.chosen)
    c.in_err-add_outcome.ensures.full
