use Rattle.std.proofs.Common.{◌≡◌, ◌+◌, ◌<◌, ◌≤◌, length, get_or, [], subst, sym, arith, false}
use Rattle.std.specs.Prelude.{IfNone, IsTrue}
use Rattle.asm_state.specs.declared.signature_limits.TheConstants.{MAX_LOCATIONS}
use Rattle.asm_state.specs.declared.function.FunctionKind.TheVariants.{Controlled}
use Rattle.asm_state.specs.Location.{Stray}
use Rattle.asm_state.specs.Signature.{HasKind, domain_in, domain_of, count_of}
use Rattle.asm_state.specs.Tables.{argument_lists, is_in, location_in}
use Rattle.asm_state.specs.Updates.{is_proper}
use Rattle.asm_state.proofs.LocationLemmas.LocationIndices.{IsNumberOf, lists_of}
use Rattle.asm_state.proofs.LocationLemmas.FunctionOfLocation.{number_at_list, proper_here, stray_here}
use Rattle.asm_state.proofs.SignatureInside.{shape_of}
use Rattle.asm_state.proofs.signature.Signature.proper_number.Goals as goal

listed : (c : goal.After-struct_known-1)
    → (c.in_ok-list.list < length (lists_of (shape_of c.self.inside) c.index.result.now)) × (get_or (lists_of (shape_of c.self.inside) c.index.result.now) c.in_ok-list.list [] ≡ c.args.arguments.now)
listed c =
    subst (λ us. (c.in_ok-list.list < length (argument_lists (domain_in us c.index.result.now.domain))) × (get_or (argument_lists (domain_in us c.index.result.now.domain)) c.in_ok-list.list [] ≡ c.args.arguments.now)) c.deref.ensures.value
    (subst (λ ns. (c.in_ok-list.list < length (argument_lists (domain_in c.deref.result.now ns))) × (get_or (argument_lists (domain_in c.deref.result.now ns)) c.in_ok-list.list [] ≡ c.args.arguments.now)) c.as_slice-domain.ensures c.in_ok-list.ensures.some)

numbered : (c : goal.After-struct_known-1) → IsNumberOf c.args.self.now c.args.f c.args.arguments.now (c.index-extent.result.now.start + c.in_ok-list.list)
numbered c =
    subst (λ s. IsNumberOf s c.args.f c.args.arguments.now (c.index-extent.result.now.start + c.in_ok-list.list)) c.self.view_is
    (number_at_list (shape_of c.self.inside) c.self.inside.layout c.self.invariant c.args.f c.index.result.now c.index-extent.result.now c.args.arguments.now c.in_ok-list.list
    (subst (λ s. HasKind Controlled s c.args.f) (sym c.self.view_is) c.requires) c.index.ensures c.index-extent.ensures (listed c).0 (listed c).1)

pub overflow_add-result : goal.overflow_add-result
overflow_add-result c =
    let below : c.index-extent.result.now.start + c.in_ok-list.list < count_of c.args.self.now = (numbered c).in_range in
    let few : count_of c.args.self.now ≤ MAX_LOCATIONS = subst (λ s. count_of s ≤ MAX_LOCATIONS) c.self.view_is c.self.invariant.fits.few_locations in
    omega (arith, below, few)

pub returns-clause-some : goal.returns-clause-some
returns-clause-some c = (
  (numbered c).number,
  (numbered c).in_range,
  subst (λ s. IsTrue (is_proper (location_in c.args.f (domain_of s c.args.f) c.args.arguments.now))) c.self.view_is
      (proper_here (shape_of c.self.inside) c.self.inside.layout c.self.invariant c.args.f c.index.result.now c.args.arguments.now c.in_ok-list.list
      (subst (λ s. HasKind Controlled s c.args.f) (sym c.self.view_is) c.requires) c.index.ensures (listed c).0 (listed c).1),
)

pub returns-in_err-list-clause-none : goal.returns-in_err-list-clause-none
returns-in_err-list-clause-none c =
    let out = subst (λ us. is_in (domain_in us c.index.result.now.domain) c.args.arguments.now ≡ false) c.deref.ensures.value
    (subst (λ ns. is_in (domain_in c.deref.result.now ns) c.args.arguments.now ≡ false) c.as_slice-domain.ensures c.in_err-list.ensures.none) in
    subst (λ r. IfNone r (location_in c.args.f (domain_of c.args.self.now c.args.f) c.args.arguments.now ≡ Stray c.args.f)) (sym c.from_residual.ensures)
    (subst (λ s. location_in c.args.f (domain_of s c.args.f) c.args.arguments.now ≡ Stray c.args.f) c.self.view_is
    (stray_here (shape_of c.self.inside) c.self.inside.layout c.self.invariant c.args.f c.index.result.now c.args.arguments.now
    (subst (λ s. HasKind Controlled s c.args.f) (sym c.self.view_is) c.requires) c.index.ensures out))
