use Rattle.std.proofs.Common.{◌<◌, ◌+◌, length, arith}
use Rattle.asm_explore.specs.code.ChoiceLists.{choice_lists, all_joined}
use Rattle.asm_explore.proofs.OutcomeLemmas.FullLists.{too_many_on, crowd_joined}
use Rattle.asm_explore.proofs.OutcomeLemmas.ListLemmas.{both_more, both_all, both_placed, both_chosen}
use Rattle.asm_explore.proofs.outcomes.beside.beside_all.Goals as goal

pub loop-i-preserved : goal.loop-i-preserved
loop-i-preserved c =
    let a = c.args in
    let l = c.loop-i in
    both_more a.signature.now a.left.now a.right.now l.i c.index-left-i.result l.found.items c.beside_each.new.found.items
    c.loop-i-test.true c.index-left-i.is c.in_ok-beside_each.ensures.joins l.invariant

pub returns-clause-lists : goal.returns-clause-lists
returns-clause-lists c =
    let a = c.args in
    let l = c.loop-i in
    both_all a.signature.now a.left.now a.right.now l.i l.found.items (omega arith) l.invariant

pub returns-clause-placed : goal.returns-clause-placed
returns-clause-placed c =
    let a = c.args in
    let l = c.loop-i in
    both_placed a.signature.now a.left.now a.right.now l.i l.found.items (omega arith) l.invariant

pub returns-clause-chosen : goal.returns-clause-chosen
returns-clause-chosen c =
    let a = c.args in
    let l = c.loop-i in
    both_chosen a.signature.now a.left.now a.right.now l.i l.found.items (omega arith) l.invariant

pub returns-in_err-beside_each-clause-crowd : goal.returns-in_err-beside_each-clause-crowd
returns-in_err-beside_each-clause-crowd c =
    let a = c.args in
    let l = c.loop-i in
    too_many_on (a.limit < length l.found.items + length a.right.now) (a.limit < length (all_joined (choice_lists a.left.now) (choice_lists a.right.now)))
    c.from_residual.result c.in_err-beside_each.field-0.0 c.from_residual.ensures.1
    (crowd_joined a.limit a.left.now a.right.now l.found.items l.i c.index-left-i.result c.loop-i-test.true c.index-left-i.is l.invariant.chosen)
    c.in_err-beside_each.ensures.crowd
