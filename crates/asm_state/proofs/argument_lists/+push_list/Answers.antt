use Rattle.std.proofs.Common.{◌/◌, ◌%◌, ◌<◌, ◌∷◌, [], length, get_or, sym, ap, subst, ◌∙◌, arith}
use Rattle.std.proofs.lemmas.Option.{get_or_from_slice_get}
use Rattle.std.proofs.lemmas.Result.{on_ok_weaker}
use Rattle.asm_state.specs.declared.value.Value.TheVariants.{Undef}
use Rattle.asm_state.specs.Signature.{domain_in}
use Rattle.asm_state.specs.Tables.{argument_lists}
use Rattle.asm_state.proofs.ListPositions.{row_here, universe_at, rest_known, pushed_before}
use Rattle.asm_state.proofs.argument_lists.+push_list.Goals as goal

pub nonzero_div-k : goal.nonzero_div-k
nonzero_div-k t c = (row_here c.args.universes.now c.args.domain.now c.in-Some.first.now c.in-Some.rest.now c.args.k c.list_count-below.result c.in-Some.ensures.cases.0 c.list_count-below.ensures.count c.requires.in_range).positive

pub element-requires : goal.element-requires
element-requires t c =
    let members = universe_at c.args.universes.now c.args.domain.now c.in-Some.first.now c.in-Some.rest.now c.index-universes-first.result c.in-Some.ensures.cases.0 c.requires.known c.index-universes-first.is in
    subst (λ vs. c.args.k / c.list_count-below.result < length vs) (sym members)
    (row_here c.args.universes.now c.args.domain.now c.in-Some.first.now c.in-Some.rest.now c.args.k c.list_count-below.result c.in-Some.ensures.cases.0 c.list_count-below.ensures.count c.requires.in_range).quotient

pub nonzero_rem-k : goal.nonzero_rem-k
nonzero_rem-k t c = (row_here c.args.universes.now c.args.domain.now c.in-Some.first.now c.in-Some.rest.now c.args.k c.list_count-below.result c.in-Some.ensures.cases.0 c.list_count-below.ensures.count c.requires.in_range).positive

pub push_list-requires : goal.push_list-requires
push_list-requires t c =
    let inside = (row_here c.args.universes.now c.args.domain.now c.in-Some.first.now c.in-Some.rest.now c.args.k c.list_count-below.result c.in-Some.ensures.cases.0 c.list_count-below.ensures.count c.requires.in_range).remainder in (
      omega (arith, c.decreases, c.in-Some.ensures.cases.1),
      (
        omega (arith, c.in-Some.ensures.cases.1, c.requires.few),
        (rest_known c.args.universes.now c.args.domain.now c.in-Some.first.now c.in-Some.rest.now c.in-Some.ensures.cases.0 c.requires.known, inside),
      ),
    )

pub returns-in_ok-push-in-Some : goal.returns-in_ok-push-in-Some
returns-in_ok-push-in-Some t c =
    let it = c.in-Some in
    let members = universe_at c.args.universes.now c.args.domain.now it.first.now it.rest.now c.index-universes-first.result it.ensures.cases.0 c.requires.known c.index-universes-first.is in
    let here = row_here c.args.universes.now c.args.domain.now it.first.now it.rest.now c.args.k c.list_count-below.result it.ensures.cases.0 c.list_count-below.ensures.count c.requires.in_range in
    let value = get_or_from_slice_get c.index-universes-first.result (c.args.k / c.list_count-below.result) c.element.result Undef c.element.ensures in
    on_ok_weaker c.push_list.result
    (λ items. items ∙ pushed_before c.args.arguments.now.items c.push.new.self.items c.element.result (get_or (argument_lists (domain_in c.args.universes.now it.rest.now)) (c.args.k % c.list_count-below.result) []) (get_or (argument_lists (domain_in c.args.universes.now c.args.domain.now)) c.args.k []) c.in_ok-push-in-Some.ensures.items
    (here.list ∙ ap (λ v. v ∷ get_or (argument_lists (domain_in c.args.universes.now it.rest.now)) (c.args.k % c.list_count-below.result) []) (ap (λ vs. get_or vs (c.args.k / c.list_count-below.result) Undef) (sym members) ∙ value)))
    c.push_list.ensures
