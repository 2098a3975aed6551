use Rattle.std.proofs.Common.{◌≡◌, ◌+◌, ◌<◌, ◌≤◌, ◌∷◌, length, get_or, sym, ap, subst, ◌∙◌, arith, false}
use Rattle.std.specs.Prelude.{IfNone}
use Rattle.asm_state.specs.declared.value.Value.TheVariants.{Undef}
use Rattle.asm_state.specs.Signature.{domain_in}
use Rattle.asm_state.specs.Tables.{is_in}
use Rattle.asm_state.proofs.ListPositions.{product_bound, list_split, universe_at, not_in_first}
use Rattle.asm_state.proofs.Positions.{position_found, position_missed}
use Rattle.asm_state.proofs.argument_lists.+list_position.Goals as goal

pub returns-in_err-position-in-Some-Some-clause-none : goal.returns-in_err-position-in-Some-Some-clause-none
returns-in_err-position-in-Some-Some-clause-none t c =
    let it = c.in-Some-Some in
    let members = universe_at c.args.universes.now c.args.domain.now it.first.now it.rest.now c.index-universes-first.result it.ensures.cases.0 c.requires.known c.index-universes-first.is in
    let missed = position_missed it.argument.now c.index-universes-first.result (sym c.position.ensures.position ∙ c.in_err-position-in-Some-Some.was) in
    let is_out = not_in_first c.args.universes.now c.args.domain.now it.first.now it.rest.now c.args.arguments.now it.argument.now it.more.now c.index-universes-first.result it.ensures.cases.0 it.ensures'.cases.0 members missed in
    subst (λ r. IfNone r (is_in (domain_in c.args.universes.now c.args.domain.now) c.args.arguments.now ≡ false)) (sym c.from_residual.ensures) is_out

pub overflow_mul-result : goal.overflow_mul-result
overflow_mul-result t c =
    let few = c.in_ok-position-in-Some-Some.ensures.few in
    let bound = (product_bound c.in_ok-position-in-Some-Some.position c.list_count.result (length c.in-Some-Some.rest.now) (omega (arith, few)) c.list_count.ensures.bound (omega (arith, c.in-Some-Some.ensures.cases.1, c.requires.few))).1 in
    omega (arith, bound)

pub overflow_add-result : goal.overflow_add-result
overflow_add-result t c =
    let few = c.in_ok-position-in-Some-Some.ensures.few in
    let short : length c.in-Some-Some.rest.now + 1 ≤ 4 = omega (arith, c.in-Some-Some.ensures.cases.1, c.requires.few) in
    let product = (product_bound c.in_ok-position-in-Some-Some.position c.list_count.result (length c.in-Some-Some.rest.now) (omega (arith, few)) c.list_count.ensures.bound short).1 in
    let count = (product_bound 1 c.list_count.result (length c.in-Some-Some.rest.now) (omega arith) c.list_count.ensures.bound short).1 in
    let below = subst (λ n. c.in_ok-below-in-Some-Some.below < n) (sym c.list_count.ensures.count) c.in_ok-below-in-Some-Some.ensures.some.0 in
    omega (arith, product, count, below)

pub returns-in_ok-below-in-Some-Some-clause-small : goal.returns-in_ok-below-in-Some-Some-clause-small
returns-in_ok-below-in-Some-Some-clause-small t c =
    let few = c.in_ok-position-in-Some-Some.ensures.few in
    let short : length c.in-Some-Some.rest.now + 1 ≤ 4 = omega (arith, c.in-Some-Some.ensures.cases.1, c.requires.few) in
    let product = (product_bound c.in_ok-position-in-Some-Some.position c.list_count.result (length c.in-Some-Some.rest.now) (omega (arith, few)) c.list_count.ensures.bound short).1 in
    let count = (product_bound 1 c.list_count.result (length c.in-Some-Some.rest.now) (omega arith) c.list_count.ensures.bound short).1 in
    let below = subst (λ n. c.in_ok-below-in-Some-Some.below < n) (sym c.list_count.ensures.count) c.in_ok-below-in-Some-Some.ensures.some.0 in
    omega (arith, product, count, below)

pub returns-in_ok-below-in-Some-Some-clause-some : goal.returns-in_ok-below-in-Some-Some-clause-some
returns-in_ok-below-in-Some-Some-clause-some t c =
    let it = c.in-Some-Some in
    let members = universe_at c.args.universes.now c.args.domain.now it.first.now it.rest.now c.index-universes-first.result it.ensures.cases.0 c.requires.known c.index-universes-first.is in
    let found = position_found it.argument.now c.index-universes-first.result c.in_ok-position-in-Some-Some.position (sym c.position.ensures.position ∙ c.in_ok-position-in-Some-Some.was) in
    let below = c.in_ok-below-in-Some-Some.ensures.some in
    let split = list_split c.args.universes.now c.args.domain.now it.first.now it.rest.now c.in_ok-position-in-Some-Some.position c.in_ok-below-in-Some-Some.below c.list_count.result it.ensures.cases.0
    (subst (λ vs. c.in_ok-position-in-Some-Some.position < length vs) members found.0)
    c.list_count.ensures.count
    (subst (λ n. c.in_ok-below-in-Some-Some.below < n) (sym c.list_count.ensures.count) below.0) in
    (split.0, split.1 ∙ (λ i. (ap (λ vs. get_or vs c.in_ok-position-in-Some-Some.position Undef) (sym members) ∙ found.1) i ∷ below.1 i) ∙ sym it.ensures'.cases.0)
