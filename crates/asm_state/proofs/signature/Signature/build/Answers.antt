use Rattle.std.proofs.Common.{refl, subst}
use Rattle.asm_state.specs.Signature.{Shape}
use Rattle.asm_state.specs.code.Layout.{IsLayoutOf}
use Rattle.asm_state.proofs.signature.Signature.build.Goals as goal

pub invariant_of-result : goal.invariant_of-result
invariant_of-result c = subst (λ (s : Shape). IsLayoutOf s c.in_ok-layout.layout) (λ i. record { universes = c.deref.ensures.value i; functions = c.deref-2.ensures.value i }) c.in_ok-layout.ensures

pub returns : goal.returns
returns c = refl
