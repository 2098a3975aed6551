use Rattle.std.proofs.Common.{◌<◌, ◌∙◌, length, arith}
use Rattle.std.proofs.lemmas.List.{length-set}
use Rattle.asm_eval.proofs.BlockLemmas.{one_more_from}
use Rattle.asm_eval.proofs.block.elements_from.Goals as goal

pub overflow_add-from : goal.overflow_add-from
overflow_add-from c = omega (arith, c.requires.within, c.size-size.ensures.few)

pub loop-k-preserved : goal.loop-k-preserved
loop-k-preserved c =
    let l = c.loop-k in
    let low : l.k < length l.elements = omega (arith, l.invariant.room, c.requires.few) in
    record {
      room = length-set l.elements l.k c.element.result ∙ l.invariant.room;
      so_far = one_more_from c.args.from l.k c.args.universe.now l.elements c.element.result low c.element.ensures l.invariant.so_far;
    }
