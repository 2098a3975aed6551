use Rattle.std.proofs.Common.{◌<◌, sym, ap, subst, ◌∙◌}
use Rattle.asm_state.specs.Signature.{count_of}
use Rattle.asm_syntax.specs.code.Views.{spec_of}
use Rattle.asm_run.proofs.LocationFunctions.{location_function_below}
use Rattle.asm_run.proofs.trace.push_line.Goals as goal

pub push_known_location-requires : goal.push_known_location-requires
push_known_location-requires c =
    let checked = c.args.checked.now in
    let shaped = c.signature-signature.ensures in
    let below = subst (λ m. c.args.n < m) (c.requires.whole ∙ ap count_of (sym shaped)) c.requires.in_range in
    location_function_below (spec_of checked.spec) c.signature-signature.result.now c.in_ok-location.location c.args.n checked.well_formed shaped below c.in_ok-location.ensures
