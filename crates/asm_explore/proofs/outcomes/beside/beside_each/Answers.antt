use Rattle.std.proofs.Common.{◌≤◌, ◌<◌, ◌+◌, ◌++◌, length}
use Rattle.asm_explore.specs.code.ChoiceLists.{choice_lists}
use Rattle.asm_explore.proofs.OutcomeLemmas.FullLists.{too_many_on, crowd_found}
use Rattle.asm_explore.proofs.OutcomeLemmas.ChoiceLists.{some_self}
use Rattle.asm_explore.proofs.OutcomeLemmas.ListLemmas.{joined_more}
use Rattle.asm_explore.proofs.outcomes.beside.beside_each.Goals as goal

pub loop-i-preserved : goal.loop-i-preserved
loop-i-preserved c =
    let a = c.args in
    let l = c.loop-i in
    joined_more a.signature.now a.left.now a.right.now l.i c.index-right-i.result a.found.now.items l.found.items c.add_outcome.new.found.items c.in_ok-joined.joined
    c.loop-i-test.true c.index-right-i.is c.in_ok-joined.ensures.choices c.in_ok-joined.ensures.counted (c.in_ok-joined.ensures.rule_result a.signature.now) c.in_ok-add_outcome.ensures.grows l.invariant

pub returns-in_err-add_outcome-clause-crowd : goal.returns-in_err-add_outcome-clause-crowd
returns-in_err-add_outcome-clause-crowd c =
    let a = c.args in
    let l = c.loop-i in
    too_many_on (a.limit ≤ length l.found.items) (a.limit < length a.found.now.items + length a.right.now)
    c.from_residual-in_err-add_outcome.result c.in_err-add_outcome.field-0.0 c.from_residual-in_err-add_outcome.ensures.1
    (crowd_found a.limit a.right.now l.i c.loop-i-test.true (λ ds. a.left.now.choices ++ ds) l.found.items a.found.now.items
    (l.invariant.chosen (choice_lists a.found.now.items) (some_self (choice_lists a.found.now.items))))
    c.in_err-add_outcome.ensures.full
