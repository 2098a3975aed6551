use Rattle.std.proofs.Common.{rules, ◌-◌, ◌++◌, [], get_or, ap, sym, ◌∙◌}
use Rattle.std.proofs.lemmas.Option.{slice_get_within}
use Rattle.asm_state.specs.Location.{Proper}
use Rattle.asm_state.specs.Signature.{location_at, domain_in}
use Rattle.asm_state.specs.Tables.{argument_lists}
use Rattle.asm_state.proofs.LocationLemmas.FunctionOfLocation.{known_extent}
use Rattle.asm_state.proofs.SignatureInside.{shape_of, owned, index, Listed, listed}
use Rattle.asm_state.proofs.signature.Signature.location.Goals as goal

pub index-extent-requires : goal.index-extent-requires
index-extent-requires c =
    let it = owned c.self.inside c.self.invariant c.args.self.now c.self.view_is c.args.n c.index-function.result.now c.requires c.index-function.ensures in
    let known = known_extent (shape_of c.self.inside) c.self.inside.layout c.self.invariant c.index-function.result.now it.function it.holds in
    search (rules, known)

pub overflow_sub-list : goal.overflow_sub-list
overflow_sub-list c = (index c.self.inside c.self.invariant c.args.self.now c.self.view_is c.args.n c.index-function.result.now c.requires c.index-function.ensures c.index-extent.result.now c.index-extent.ensures).begins

pub returns-then-list-extent : goal.returns-then-list-extent
returns-then-list-extent c =
    sym (ap (λ s. location_at s c.args.n) (sym c.self.view_is)
    ∙ (index c.self.inside c.self.invariant c.args.self.now c.self.view_is c.args.n c.index-function.result.now c.requires c.index-function.ensures c.index-extent.result.now c.index-extent.ensures).stray c.if-list-extent.true)

pub index-requires : goal.index-requires
index-requires c =
    let it = owned c.self.inside c.self.invariant c.args.self.now c.self.view_is c.args.n c.index-function.result.now c.requires c.index-function.ensures in
    let known = slice_get_within c.self.inside.functions.items c.index-function.result.now it.function it.holds.at in
    search (rules, known)

here : (c : goal.After-arguments-2-1) → Listed c.args.self.now c.deref.result.now c.as_slice-domain.result.now c.args.n c.index-function.result.now (c.args.n - c.index-extent.result.now.start)
here c =
    let at = index c.self.inside c.self.invariant c.args.self.now c.self.view_is c.args.n c.index-function.result.now c.requires c.index-function.ensures c.index-extent.result.now c.index-extent.ensures in
    listed c.self.inside c.self.invariant c.args.self.now c.self.view_is c.args.n c.index-function.result.now c.index-extent.result.now.start c.index-extent.result.now.lists at c.if-list-extent.false
    c.index.result.now c.index.ensures c.deref.result.now c.as_slice-domain.result.now c.deref.ensures.value c.as_slice-domain.ensures

pub push_list-requires-clause-few : goal.push_list-requires-clause-few
push_list-requires-clause-few c = (here c).domain_fits.few

pub push_list-requires-clause-known : goal.push_list-requires-clause-known
push_list-requires-clause-known c = (here c).domain_fits.known

pub push_list-requires-clause-in_range : goal.push_list-requires-clause-in_range
push_list-requires-clause-in_range c = (here c).in_range

pub returns : goal.returns
returns c =
    let at = index c.self.inside c.self.invariant c.args.self.now c.self.view_is c.args.n c.index-function.result.now c.requires c.index-function.ensures c.index-extent.result.now c.index-extent.ensures in
    let it = listed c.self.inside c.self.invariant c.args.self.now c.self.view_is c.args.n c.index-function.result.now c.index-extent.result.now.start c.index-extent.result.now.lists at c.if-list-extent.false
    c.index.result.now c.index.ensures c.deref.result.now c.as_slice-domain.result.now c.deref.ensures.value c.as_slice-domain.ensures in
    let list = get_or (argument_lists (domain_in c.deref.result.now c.as_slice-domain.result.now)) (c.args.n - c.index-extent.result.now.start) [] in
    ap (Proper c.index-function.result.now) (c.new.ensures ∙ c.in_ok-push_list.ensures ∙ ap (λ vs. vs ++ list) c.in_ok-arguments.ensures.items) ∙ sym it.location
