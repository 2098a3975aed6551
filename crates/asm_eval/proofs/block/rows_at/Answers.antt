use Rattle.std.proofs.Common.{◌<◌, ◌∙◌, arith}
use Rattle.asm_eval.specs.code.ShownViews.{shown}
use Rattle.asm_code.specs.code.Readings.{in_row, position_from}
use Rattle.asm_state.specs.declared.value.Value.TheVariants.{Undef}
use Rattle.asm_eval.proofs.BlockLemmas.{each_more, read_at}
use Rattle.asm_eval.proofs.block.rows_at.Goals as goal

pub loop-k-preserved : goal.loop-k-preserved
loop-k-preserved c =
    let a = c.args in
    let l = c.loop-k in
    let low : l.k < 16 = omega (arith, c.requires.few) in
    let value = read_at Undef l.values l.k c.index-values-k.result (omega (arith, low, l.invariant.room)) in
    each_more Undef (λ k v. in_row a.view.now.signature.now (shown a.view.now) a.first (position_from a.over.low a.over.count (v))) _ l.values l.k c.in_row.result l.invariant low
    (c.in_row.ensures ∙ (λ i. in_row a.view.now.signature.now (shown a.view.now) a.first (position_from a.over.low a.over.count (value i))))
