use Rattle.std.proofs.Common.{◌<◌, ◌∙◌, arith}
use Rattle.asm_eval.specs.code.ShownViews.{shown}
use Rattle.asm_code.specs.code.Readings.{in_grid, position_from}
use Rattle.asm_state.specs.declared.value.Value.TheVariants.{Undef}
use Rattle.asm_eval.specs.code.Blocks.{at}
use Rattle.asm_eval.proofs.BlockLemmas.{each_more, read_at}
use Rattle.asm_eval.proofs.block.grids_at.Goals as goal

pub loop-k-preserved : goal.loop-k-preserved
loop-k-preserved c =
    let a = c.args in
    let l = c.loop-k in
    let low : l.k < 16 = omega (arith, c.requires.few) in
    let value = read_at Undef l.values l.k c.index-values-k.result (omega (arith, low, l.invariant.room)) in
    let other = read_at Undef a.others.now l.k c.index-others-k.result (omega (arith, low)) in
    each_more Undef (λ k v. in_grid a.view.now.signature.now (shown a.view.now) a.place.now.first a.place.now.columns.count (position_from a.place.now.rows.low a.place.now.rows.count (v)) (position_from a.place.now.columns.low a.place.now.columns.count (at a.others.now k))) _ l.values l.k c.in_grid.result l.invariant low
    (c.in_grid.ensures ∙ (λ i. in_grid a.view.now.signature.now (shown a.view.now) a.place.now.first a.place.now.columns.count (position_from a.place.now.rows.low a.place.now.rows.count (value i)) (position_from a.place.now.columns.low a.place.now.columns.count (other i))))
