use Rattle.std.proofs.Common.{◌≡◌, ◌<◌, length, sym, ap, subst, ◌∙◌}
use Rattle.std.proofs.lemmas.Result.{on_ok_weaker}
use Rattle.asm_state.specs.code.CodeLocations.{location_of}
use Rattle.asm_state.specs.Signature.{count_of, location_at}
use Rattle.asm_syntax.specs.code.Views.{spec_of}
use Rattle.asm_check.specs.Shapes.{shape_of}
use Rattle.asm_run.specs.Trace.{location_text}
use Rattle.asm_run.specs.Written.{names_in, text_of_location}
use Rattle.asm_run.proofs.TextLemmas.KnownTexts.{text_behind, text_kept}
use Rattle.asm_run.proofs.LocationFunctions.{location_function_below}
use Rattle.asm_run.proofs.update_line.push_new_location.Goals as goal

pub push_known_location-requires : goal.push_known_location-requires
push_known_location-requires c =
    let checked = c.args.checked.now in
    let shaped = c.signature.ensures in
    let below = subst (λ s. c.args.n < count_of s) (sym shaped) c.requires.in_range in
    location_function_below (spec_of checked.spec) c.signature.result.now c.in_ok-location.location c.args.n checked.well_formed shaped below c.in_ok-location.ensures

pub returns-clause-known : goal.returns-clause-known
returns-clause-known c =
    let s = spec_of c.args.checked.now.spec in
    let at : location_of c.in_ok-location.location ≡ location_at (shape_of s) c.args.n = c.in_ok-location.ensures ∙ ap (λ v. location_at v c.args.n) c.signature.ensures in
    let behind : c.len-start.result ≡ length c.args.out.now.items = c.len-start.ensures ∙ c.args.out.now.ok.0 in
    let text : c.split_at.result.1.now ≡ text_of_location s c.args.n =
    c.split_at.ensures.back ∙ text_behind c.args.out.now.items (location_text (names_in s) (location_of c.in_ok-location.location)) c.as_slice.result.now c.len-start.result behind
    (c.as_slice.ensures.value ∙ c.in_ok-push_known_location.ensures)
    ∙ ap (location_text (names_in s)) at in
    on_ok_weaker c.keep.result (λ grown. text_kept s c.args.n c.split_at.result.1.now c.args.texts.now c.keep.new.self text c.requires.known grown) c.keep.ensures
