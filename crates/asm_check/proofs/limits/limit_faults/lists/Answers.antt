use Rattle.std.proofs.Common.{sym, arith, ◌<◌}
use Rattle.asm_state.specs.declared.signature_limits.TheConstants.{MAX_ARGUMENTS}
use Rattle.asm_check.proofs.LimitLemmas.ArgumentCounts.{product_fits, product_small, product_more}
use Rattle.asm_check.proofs.limits.limit_faults.lists.Goals as goal

pub overflow_mul-product : goal.overflow_mul-product
overflow_mul-product c =
    let low : c.loop-name.name-index < MAX_ARGUMENTS = omega arith in
    let small = product_small c.loop-name.product c.counted_size-product.result c.loop-name.name-index low c.loop-name.invariant.small c.counted_size-product.ensures.small in
    omega (arith, small)

pub loop-name-preserved : goal.loop-name-preserved
loop-name-preserved c = record {
  small = product_fits c.loop-name.product c.counted_size-product.result c.loop-name.name-index c.loop-name.invariant.small c.counted_size-product.ensures.small;
  product = λ spec table sizes.
      product_more spec c.args.domain.now c.loop-name.name-index c.name-item.result c.loop-name.product c.counted_size-product.result (omega arith) (sym c.name-item.is)
      (c.counted_size-product.ensures.size spec c.name-item.result.at table sizes) (c.loop-name.invariant.product spec table sizes);
}
