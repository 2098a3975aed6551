use Rattle.std.proofs.Common.{◌+◌, ◌<◌, ◌≤◌, sym, subst, arith}
use Rattle.asm_state.specs.declared.function.FunctionKind.TheVariants.{Controlled}
use Rattle.asm_state.specs.declared.signature_limits.TheConstants.{MAX_LOCATIONS}
use Rattle.asm_state.specs.Signature.{HasKind, count_of}
use Rattle.asm_state.proofs.LocationLemmas.FirstLocations.{IsStrayNumber, stray_at}
use Rattle.asm_state.proofs.SignatureInside.{shape_of}
use Rattle.asm_state.proofs.signature.Signature.stray_number.Goals as goal

numbered : (c : goal.After-struct_known-1) → IsStrayNumber c.args.self.now c.args.f (c.index-extent.result.now.start + c.index-extent.result.now.lists)
numbered c =
    subst (λ s. IsStrayNumber s c.args.f (c.index-extent.result.now.start + c.index-extent.result.now.lists)) c.self.view_is
    (stray_at (shape_of c.self.inside) c.args.f (subst (λ s. HasKind Controlled s c.args.f) (sym c.self.view_is) c.requires) c.self.inside.layout c.self.invariant c.index-extent.result.now c.index-extent.ensures)

pub overflow_add-result : goal.overflow_add-result
overflow_add-result c =
    let below : c.index-extent.result.now.start + c.index-extent.result.now.lists < count_of c.args.self.now = (numbered c).in_range in
    let few : count_of c.args.self.now ≤ MAX_LOCATIONS = subst (λ s. count_of s ≤ MAX_LOCATIONS) c.self.view_is c.self.invariant.fits.few_locations in
    omega (arith, below, few)

pub returns-clause-number : goal.returns-clause-number
returns-clause-number c = (numbered c).number

pub returns-clause-location : goal.returns-clause-location
returns-clause-location c = (numbered c).location

pub returns-clause-in_range : goal.returns-clause-in_range
returns-clause-in_range c = (numbered c).in_range
