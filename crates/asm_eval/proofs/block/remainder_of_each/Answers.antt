use Rattle.std.proofs.Common.{◌<◌, ◌∙◌, arith}
use Rattle.asm_state.specs.Operation.{op}
use Rattle.asm_state.specs.declared.operation.Op.TheVariants.{Remainder}
use Rattle.asm_state.specs.declared.value.Value.TheVariants.{Number as Whole}
use Rattle.asm_state.specs.declared.value.Value.TheVariants.{Undef}
use Rattle.asm_eval.proofs.BlockLemmas.{each_more, read_at}
use Rattle.asm_eval.proofs.block.remainder_of_each.Goals as goal

pub loop-k-preserved : goal.loop-k-preserved
loop-k-preserved c =
    let a = c.args in
    let l = c.loop-k in
    let low : l.k < 16 = omega (arith, c.requires) in
    let value = read_at Undef l.values l.k c.index-values-k.result (omega (arith, low, l.invariant.room)) in
    each_more Undef (λ k v. op Remainder (v) (Whole a.right.number)) _ l.values l.k c.remainder_by.result l.invariant low
    (c.remainder_by.ensures ∙ (λ i. op Remainder (value i) (Whole a.right.number)))
