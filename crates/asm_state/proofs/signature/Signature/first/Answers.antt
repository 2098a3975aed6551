use Rattle.std.proofs.Common.{◌≡◌, sym, subst}
use Rattle.asm_state.specs.declared.function.FunctionKind.TheVariants.{Controlled}
use Rattle.asm_state.specs.code.FirstLocations.{first_of}
use Rattle.asm_state.specs.Signature.{HasKind}
use Rattle.asm_state.proofs.LocationLemmas.FirstLocations.{first_here}
use Rattle.asm_state.proofs.SignatureInside.{shape_of}
use Rattle.asm_state.proofs.signature.Signature.first.Goals as goal

pub returns : goal.returns
returns c =
    subst (λ s. c.index.result.now.start ≡ first_of s c.args.f) c.self.view_is
    (first_here (shape_of c.self.inside) c.args.f (subst (λ s. HasKind Controlled s c.args.f) (sym c.self.view_is) c.requires) c.self.inside.layout c.self.invariant c.index.result.now c.index.ensures)
