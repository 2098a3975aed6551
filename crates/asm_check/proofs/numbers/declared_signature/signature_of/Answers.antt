use Rattle.std.proofs.Common.{List, sym, subst}
use Rattle.asm_state.specs.declared.function.Function.{Function}
use Rattle.asm_state.specs.declared.value.Value.{Value}
use Rattle.asm_state.specs.SignatureLimits.{Fits}
use Rattle.asm_syntax.specs.code.Views.{spec_of}
use Rattle.asm_check.specs.Shapes.{shape_of}
use Rattle.asm_check.proofs.NumberLemmas.ShapeFits.{signature_fits}
use Rattle.asm_check.proofs.numbers.declared_signature.signature_of.Goals as goal

pub build-requires : goal.build-requires
build-requires c =
    subst (λ (us : List (List Value)). Fits (record { universes = us; functions = c.in_ok-functions.functions.items })) (sym c.in_ok-universes.ensures)
    (subst (λ (fs : List Function). Fits (record { universes = (shape_of (spec_of c.args.spec.now)).universes; functions = fs })) (sym c.in_ok-functions.ensures)
    (signature_fits (spec_of c.args.spec.now) c.requires.good))
