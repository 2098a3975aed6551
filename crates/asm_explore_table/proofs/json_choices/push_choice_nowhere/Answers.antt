use Rattle.std.proofs.Common.{◌∙◌, ◌++◌, [], ap, append_assoc}
use Rattle.std.specs.Prelude.{codes}
use Rattle.asm_syntax.specs.code.Views.{spec_of}
use Rattle.asm_explore_table.specs.JsonRows.{value_json}
use Rattle.asm_explore_table.specs.JsonTexts.{string_text}
use Rattle.asm_explore_table.specs.code.JsonParts.{choice_front}
use Rattle.asm_explore_table.proofs.JsonLists.{ok_added}
use Rattle.asm_explore_table.proofs.JsonTexts.{choice_whole}
use Rattle.asm_explore_table.proofs.TableLines.{ok_then}
use Rattle.asm_explore_table.proofs.json_choices.push_choice_nowhere.Goals as goal

pub returns : goal.returns
returns c =
    let s = spec_of c.args.checked.now.spec in
    let out = c.args.out.now.items in
    let v = c.args.value in
    ok_then c.extend_from_slice.result _ _
    (λ added. added ∙ ap (λ t. t ++ codes "{}}") c.in_ok-push_choice_front.ensures ∙ append_assoc out (choice_front s [] v) (codes "{}}")
    ∙ ap (λ t. out ++ t) (choice_whole (string_text []) (value_json s v) (codes "{}")))
    (ok_added c.extend_from_slice.result _ _ _ c.extend_from_slice.ensures.items)
