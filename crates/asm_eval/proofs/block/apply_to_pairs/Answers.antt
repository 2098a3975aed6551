use Rattle.std.proofs.Common.{◌<◌, ◌∙◌, arith}
use Rattle.asm_state.specs.Operation.{op}
use Rattle.asm_state.specs.declared.value.Value.TheVariants.{Undef}
use Rattle.asm_eval.specs.code.Blocks.{at}
use Rattle.asm_eval.proofs.BlockLemmas.{each_more, read_at}
use Rattle.asm_eval.proofs.block.apply_to_pairs.Goals as goal

pub loop-k-preserved : goal.loop-k-preserved
loop-k-preserved c =
    let a = c.args in
    let l = c.loop-k in
    let low : l.k < 16 = omega (arith, c.requires) in
    let value = read_at Undef l.values l.k c.index-values-k.result (omega (arith, low, l.invariant.room)) in
    let other = read_at Undef a.others.now l.k c.index-others-k.result (omega (arith, low)) in
    each_more Undef (λ k v. op a.operation (v) (at a.others.now k)) _ l.values l.k c.applied.result l.invariant low
    (c.applied.ensures ∙ (λ i. op a.operation (value i) (other i)))
