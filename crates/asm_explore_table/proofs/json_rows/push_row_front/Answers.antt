use Rattle.std.proofs.Common.{◌∙◌, ◌++◌, ap, map}
use Rattle.std.specs.Prelude.{codes, decimal}
use Rattle.asm_syntax.specs.code.Views.{spec_of}
use Rattle.asm_explore.specs.RunChoices.{asked_said}
use Rattle.asm_explore_table.specs.JsonRows.{choice_json}
use Rattle.asm_explore_table.specs.JsonTexts.{list_by}
use Rattle.asm_explore_table.proofs.JsonTexts.{four_pieces}
use Rattle.asm_explore_table.proofs.TableLines.{ok_then}
use Rattle.asm_explore_table.proofs.json_rows.push_row_front.Goals as goal

pub returns : goal.returns
returns c =
    let s = spec_of c.args.checked.now.spec in
    let digits = c.as_bytes.ensures.value ∙ c.in_ok-digits.ensures.ok in
    ok_then c.push_choices.result _ _
    (four_pieces c.args.out.now.items (codes "{\"step\":") (decimal c.args.number) (codes ",\"chosen\":") (list_by (choice_json s) (map asked_said c.args.asked.now))
    _ _ _ _ c.in_ok-extend_from_slice.ensures.items (c.in_ok-extend_from_slice-2.ensures.items ∙ ap (λ t. c.extend_from_slice.new.self.items ++ t) digits) c.in_ok-extend_from_slice-3.ensures.items)
    c.push_choices.ensures
