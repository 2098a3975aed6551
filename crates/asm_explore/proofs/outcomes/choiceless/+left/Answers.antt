use Rattle.std.proofs.Common.{arith}
use Rattle.asm_explore.proofs.CodeLists.{size_of_part}
use Rattle.asm_explore.proofs.OutcomeLemmas.Choiceless.{none_of_parts}
use Rattle.asm_explore.proofs.outcomes.choiceless.+left.Goals as goal

pub left_after_parts-left_after-requires : goal.left_after_parts-left_after-requires
left_after_parts-left_after-requires t c =
    let less = size_of_part c.args.parts.now c.loop-i.i c.index-parts-i.result c.loop-i-test.true c.index-parts-i.is in
    (omega (arith, c.decreases, less), tt)

pub left_after_parts-returns : goal.left_after_parts-returns
left_after_parts-returns t c = none_of_parts c.args.parts.now c.loop-i.i (omega arith) c.loop-i.invariant
