use Rattle.std.proofs.Common.{◌≡◌, ◌+◌, ◌<◌, ◌≤◌, length, get_or, [], subst, sym, arith, false}
use Rattle.std.specs.Prelude.{IfSome, IfNone}
use Rattle.asm_state.specs.declared.signature_limits.TheConstants.{MAX_LOCATIONS}
use Rattle.asm_state.specs.declared.function.FunctionKind.TheVariants.{Controlled}
use Rattle.asm_state.specs.Signature.{HasKind, domain_in, count_of}
use Rattle.asm_state.specs.Tables.{argument_lists, is_in}
use Rattle.asm_state.proofs.LocationLemmas.LocationIndices.{IsNumberOf}
use Rattle.asm_state.proofs.LocationLemmas.FunctionOfLocation.{number_here}
use Rattle.asm_state.proofs.SignatureInside.{shape_of}
use Rattle.asm_state.proofs.signature.Signature.number_of.Goals as goal

numbered : (c : goal.After-struct_known-1) → IsNumberOf c.args.self.now c.args.f c.args.arguments.now (c.index-extent.result.now.start + c.unwrap_or.result)
numbered c =
    let domain = c.as_slice-domain.ensures in
    let universes = c.deref.ensures.value in
    let here = number_here (shape_of c.self.inside) c.self.inside.layout c.self.invariant c.args.f c.index.result.now c.index-extent.result.now c.args.arguments.now c.list_position-list.result
    (subst (λ s. HasKind Controlled s c.args.f) (sym c.self.view_is) c.requires) c.index.ensures c.index-extent.ensures
    (subst (λ us. IfSome c.list_position-list.result (λ k. (k < length (argument_lists (domain_in us c.index.result.now.domain))) × (get_or (argument_lists (domain_in us c.index.result.now.domain)) k [] ≡ c.args.arguments.now))) universes
    (subst (λ ns. IfSome c.list_position-list.result (λ k. (k < length (argument_lists (domain_in c.deref.result.now ns))) × (get_or (argument_lists (domain_in c.deref.result.now ns)) k [] ≡ c.args.arguments.now))) domain c.list_position-list.ensures.some))
    (subst (λ us. IfNone c.list_position-list.result (is_in (domain_in us c.index.result.now.domain) c.args.arguments.now ≡ false)) universes
    (subst (λ ns. IfNone c.list_position-list.result (is_in (domain_in c.deref.result.now ns) c.args.arguments.now ≡ false)) domain c.list_position-list.ensures.none)) in
    subst (λ s. IsNumberOf s c.args.f c.args.arguments.now (c.index-extent.result.now.start + c.unwrap_or.result)) c.self.view_is
    (subst (λ n. IsNumberOf (shape_of c.self.inside) c.args.f c.args.arguments.now (c.index-extent.result.now.start + n)) (sym c.unwrap_or.ensures) here)

pub overflow_add-result : goal.overflow_add-result
overflow_add-result c =
    let below : c.index-extent.result.now.start + c.unwrap_or.result < count_of c.args.self.now = (numbered c).in_range in
    let few : count_of c.args.self.now ≤ MAX_LOCATIONS = subst (λ s. count_of s ≤ MAX_LOCATIONS) c.self.view_is c.self.invariant.fits.few_locations in
    omega (arith, below, few)

pub returns-clause-number : goal.returns-clause-number
returns-clause-number c = (numbered c).number

pub returns-clause-location : goal.returns-clause-location
returns-clause-location c = (numbered c).location

pub returns-clause-in_range : goal.returns-clause-in_range
returns-clause-in_range c = (numbered c).in_range
