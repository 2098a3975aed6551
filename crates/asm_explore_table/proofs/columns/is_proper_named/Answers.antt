use Rattle.std.proofs.Common.{◌∙◌, ◌||◌, ◌++◌, ap, false, sym, true}
use Rattle.std.specs.List.{list_any}
use Rattle.std.specs.Str.{bytes_eq}
use Rattle.asm_state.specs.Location.{Proper}
use Rattle.asm_syntax.specs.code.Views.{spec_of}
use Rattle.asm_run.specs.Trace.{function_text, location_text}
use Rattle.asm_run.specs.Written.{names_in}
use Rattle.asm_explore_table.specs.code.StepsMade.{names_said}
use Rattle.asm_explore_table.proofs.ChangeLists.{any_said}
use Rattle.asm_explore_table.proofs.columns.is_proper_named.Goals as goal

pub returns-then-is_among : goal.returns-then-is_among
returns-then-is_among c =
    let names = c.args.names.now in
    let text = c.as_slice.ensures.value ∙ c.in_ok-push_function.ensures ∙ ap (λ t. t ++ function_text (names_in (spec_of c.args.checked.now.spec)) c.args.function) c.new-text.ensures.items in
    let found = any_said names _ _ true text (sym c.if-is_among.true ∙ c.is_among.ensures) in
    let l = Proper c.args.function c.args.arguments.now in
    ap (λ b. b || list_any (λ name. bytes_eq name (location_text (names_in (spec_of c.args.checked.now.spec)) l)) (names_said names)) found

pub returns : goal.returns
returns c =
    let names = c.args.names.now in
    let l = Proper c.args.function c.args.arguments.now in
    let text = c.as_slice.ensures.value ∙ c.in_ok-push_function.ensures ∙ ap (λ t. t ++ function_text (names_in (spec_of c.args.checked.now.spec)) c.args.function) c.new-text.ensures.items in
    let other = c.as_slice-2.ensures.value ∙ c.in_ok-push_location.ensures ∙ ap (λ t. t ++ location_text (names_in (spec_of c.args.checked.now.spec)) l) c.clear.ensures.items in
    let absent = any_said names _ _ false text (sym c.if-is_among.false ∙ c.is_among.ensures) in
    any_said names _ _ c.is_among-2.result other c.is_among-2.ensures
    ∙ ap (λ b. b || list_any (λ name. bytes_eq name (location_text (names_in (spec_of c.args.checked.now.spec)) l)) (names_said names)) absent
