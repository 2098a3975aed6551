use Rattle.std.proofs.Common.{◌<◌, length, sym, ◌∙◌, arith}
use Rattle.asm_explore.proofs.OutcomeLemmas.SameSets.{next_same, all_same}
use Rattle.asm_explore.proofs.same_result.is_same_set.Goals as goal

pub loop-i-preserved : goal.loop-i-preserved
loop-i-preserved c =
    let low : c.loop-i.i < length c.args.left.now.set.ranges = omega (arith, c.len-i-end.ensures.len) in
    let far : c.loop-i.i < length c.args.right.now.set.ranges = omega (arith, c.len-i-end.ensures.len, c.len.ensures.len, c.len-else-count.ensures.len) in
    next_same c.args.left.now.set.ranges c.args.right.now.set.ranges c.loop-i.i low far c.loop-i.invariant (c.is_same_at.ensures c.if-not-is_same_at.false)

pub returns : goal.returns
returns c = λ yes.
    all_same c.args.left.now c.args.right.now c.loop-i.i (omega (arith, c.len-i-end.ensures.len)) (omega (arith, c.len-i-end.ensures.len, c.len.ensures.len, c.len-else-count.ensures.len))
    (sym c.count.ensures ∙ c.if-count.false ∙ c.count-2.ensures) c.loop-i.invariant
