use Rattle.std.proofs.Common.{◌∙◌, ◌++◌, ap}
use Rattle.asm_syntax.specs.code.Views.{spec_of}
use Rattle.asm_run.specs.Trace.{function_text}
use Rattle.asm_run.specs.Written.{names_in}
use Rattle.asm_explore_table.specs.Pages.{escaped}
use Rattle.asm_explore_table.proofs.PageTexts.{at_end, three_parts}
use Rattle.asm_explore_table.proofs.page_heads.push_function_head.Goals as goal

pub returns : goal.returns
returns c =
    let begun = c.extend_from_slice.new.self.items in
    let counted = c.push_decimal.new.out.items in
    let opened = c.extend_from_slice-2.new.self.items in
    let named = c.push_escaped.new.out.items in
    let name = c.as_slice.ensures.value ∙ c.in_ok-name.ensures ∙ ap (function_text (names_in (spec_of c.args.checked.now.spec))) c.in_ok-function.ensures in
    at_end c.extend_from_slice-3.result _ named _ _ c.extend_from_slice-3.ensures.items
    (three_parts counted opened named _ _ _ c.in_ok-extend_from_slice-2.ensures.items (c.in_ok-push_escaped.ensures ∙ ap (λ t. opened ++ escaped t) name)
    ∙ three_parts c.args.out.now.items begun counted _ _ _ c.in_ok-extend_from_slice.ensures.items c.in_ok-push_decimal.ensures)
