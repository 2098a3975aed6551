use Rattle.std.proofs.Common.{◌*◌, length, sym, ap, ◌∙◌, arith}
use Rattle.asm_state.proofs.ListPositions.{product_bound, lists_split, universe_at}
use Rattle.asm_state.proofs.argument_lists.+list_count.Goals as goal

pub overflow_mul-result : goal.overflow_mul-result
overflow_mul-result t c =
    let bound = (product_bound c.size.result c.list_count.result (length c.in-Some.rest.now) c.size.ensures.few c.list_count.ensures.bound (omega (arith, c.in-Some.ensures.cases.1, c.requires.few))).1 in
    omega (arith, bound)

pub returns-in-Some-clause-count : goal.returns-in-Some-clause-count
returns-in-Some-clause-count t c =
    let vs = universe_at c.args.universes.now c.args.domain.now c.in-Some.first.now c.in-Some.rest.now c.index-universes-first.result c.in-Some.ensures.cases.0 c.requires.known c.index-universes-first.is in
    (λ i. (c.size.ensures.size ∙ ap length vs) i * c.list_count.ensures.count i)
    ∙ sym (lists_split c.args.universes.now c.args.domain.now c.in-Some.first.now c.in-Some.rest.now c.in-Some.ensures.cases.0)
