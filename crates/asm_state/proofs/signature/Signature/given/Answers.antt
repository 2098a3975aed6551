use Rattle.std.proofs.Common.{rules, ◌≡◌, ◌<◌, length, get_or, [], ap, subst, sym, ◌∙◌, arith, false}
use Rattle.asm_state.proofs.signature.Signature.given.Goals as goal
use Rattle.asm_state.specs.declared.function.FunctionKind.TheVariants.{Static}
use Rattle.asm_state.specs.Signature.{HasKind, domain_in, held_value}
use Rattle.asm_state.specs.Tables.{argument_lists, is_in}
use Rattle.asm_state.proofs.GivenValues.{given_here, given_outside}
use Rattle.asm_state.proofs.SignatureInside.{shape_of}

pub overflow_add-extent : goal.overflow_add-extent
overflow_add-extent c =
    let some = subst (λ us. (c.in-Some.list < length (argument_lists (domain_in us c.index.result.now.domain))) × (get_or (argument_lists (domain_in us c.index.result.now.domain)) c.in-Some.list [] ≡ c.args.arguments.now)) c.deref.ensures.value
    (subst (λ ns. (c.in-Some.list < length (argument_lists (domain_in c.deref.result.now ns))) × (get_or (argument_lists (domain_in c.deref.result.now ns)) c.in-Some.list [] ≡ c.args.arguments.now)) c.as_slice-domain.ensures c.in-Some.ensures.some) in
    let it = given_here (shape_of c.self.inside) c.self.inside.layout c.self.invariant c.args.f c.index.result.now c.index-extent.result.now c.args.arguments.now c.in-Some.list
    (subst (λ s. HasKind Static s c.args.f) (sym c.self.view_is) c.requires) c.index.ensures c.index-extent.ensures some.0 some.1 in
    omega (arith, it.in_range, it.few)

pub index-requires-in-Some : goal.index-requires-in-Some
index-requires-in-Some c =
    let some = subst (λ us. (c.in-Some.list < length (argument_lists (domain_in us c.index.result.now.domain))) × (get_or (argument_lists (domain_in us c.index.result.now.domain)) c.in-Some.list [] ≡ c.args.arguments.now)) c.deref.ensures.value
    (subst (λ ns. (c.in-Some.list < length (argument_lists (domain_in c.deref.result.now ns))) × (get_or (argument_lists (domain_in c.deref.result.now ns)) c.in-Some.list [] ≡ c.args.arguments.now)) c.as_slice-domain.ensures c.in-Some.ensures.some) in
    let it = given_here (shape_of c.self.inside) c.self.inside.layout c.self.invariant c.args.f c.index.result.now c.index-extent.result.now c.args.arguments.now c.in-Some.list
    (subst (λ s. HasKind Static s c.args.f) (sym c.self.view_is) c.requires) c.index.ensures c.index-extent.ensures some.0 some.1 in
    let inside = it.in_range in
    search (rules, inside)

pub returns-in-Some : goal.returns-in-Some
returns-in-Some c =
    let some = subst (λ us. (c.in-Some.list < length (argument_lists (domain_in us c.index.result.now.domain))) × (get_or (argument_lists (domain_in us c.index.result.now.domain)) c.in-Some.list [] ≡ c.args.arguments.now)) c.deref.ensures.value
    (subst (λ ns. (c.in-Some.list < length (argument_lists (domain_in c.deref.result.now ns))) × (get_or (argument_lists (domain_in c.deref.result.now ns)) c.in-Some.list [] ≡ c.args.arguments.now)) c.as_slice-domain.ensures c.in-Some.ensures.some) in
    let it = given_here (shape_of c.self.inside) c.self.inside.layout c.self.invariant c.args.f c.index.result.now c.index-extent.result.now c.args.arguments.now c.in-Some.list
    (subst (λ s. HasKind Static s c.args.f) (sym c.self.view_is) c.requires) c.index.ensures c.index-extent.ensures some.0 some.1 in
    c.index-in-Some.ensures ∙ it.value c.index-in-Some.result.now ∙ ap (λ s. held_value s c.args.f c.args.arguments.now) c.self.view_is

pub returns-in-None : goal.returns-in-None
returns-in-None c =
    let domain = c.as_slice-domain.ensures in
    let out = subst (λ us. is_in (domain_in us c.index.result.now.domain) c.args.arguments.now ≡ false) c.deref.ensures.value
    (subst (λ ns. is_in (domain_in c.deref.result.now ns) c.args.arguments.now ≡ false) domain c.in-None.ensures.none) in
    c.undef.ensures
    ∙ given_outside (shape_of c.self.inside) c.args.f c.index.result.now c.args.arguments.now
    (subst (λ s. HasKind Static s c.args.f) (sym c.self.view_is) c.requires) c.index.ensures out
    ∙ ap (λ s. held_value s c.args.f c.args.arguments.now) c.self.view_is
