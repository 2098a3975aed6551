use Rattle.std.proofs.Common.{◌∙◌, ◌++◌, ap, map}
use Rattle.std.specs.Prelude.{codes, decimal, option_map}
use Rattle.asm_state.specs.Signature.{state_of}
use Rattle.asm_syntax.specs.code.Views.{spec_of}
use Rattle.asm_check.specs.Shapes.{shape_of}
use Rattle.asm_explore.specs.RunChoices.{asked_said}
use Rattle.asm_explore_table.specs.JsonRows.{choice_json, state_member}
use Rattle.asm_explore_table.specs.JsonTexts.{list_by}
use Rattle.asm_explore_table.specs.code.JsonParts.{locations_in, more_members, row_front}
use Rattle.asm_explore_table.proofs.JsonLists.{ok_added}
use Rattle.asm_explore_table.proofs.JsonTexts.{row_whole, three_pieces}
use Rattle.asm_explore_table.proofs.TableLines.{ok_then}
use Rattle.asm_explore_table.proofs.json_rows.add_row.Goals as goal

pub returns : goal.returns
returns c =
    let s = spec_of c.args.checked.now.spec in
    let out = c.args.out.now.items in
    let row = c.args.row.now in
    let asked = map asked_said row.asked.items in
    let members = state_member s (locations_in c.args.columns.now) (option_map (state_of (shape_of s)) row.next) in
    let front = c.in_ok-push_row_front.ensures ∙ ap (λ points. out ++ row_front s c.args.number (map asked_said points)) c.as_slice.ensures.value in
    ok_then c.extend_from_slice.result _ _
    (λ added. three_pieces out (row_front s c.args.number asked) (more_members members) (codes "}\n") _ _ _ front c.in_ok-push_state_after.ensures added
    ∙ ap (λ t. out ++ t) (row_whole (decimal c.args.number) (list_by (choice_json s) asked) members))
    (ok_added c.extend_from_slice.result _ _ _ c.extend_from_slice.ensures.items)
