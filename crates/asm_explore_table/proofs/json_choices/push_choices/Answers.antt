use Rattle.std.proofs.Common.{map}
use Rattle.std.specs.Prelude.{codes}
use Rattle.std.specs.List.{join_by}
use Rattle.asm_syntax.specs.code.Views.{spec_of}
use Rattle.asm_explore.specs.RunChoices.{asked_said}
use Rattle.asm_explore_table.specs.JsonRows.{choice_json}
use Rattle.asm_explore_table.proofs.JsonLists.{closed, listed_end, listed_step, ok_added}
use Rattle.asm_explore_table.proofs.TableLines.{ok_then}
use Rattle.asm_explore_table.proofs.json_choices.push_choices.Goals as goal

pub loop-k-preserved : goal.loop-k-preserved
loop-k-preserved c =
    listed_step (choice_json (spec_of c.args.checked.now.spec)) asked_said c.args.asked.now c.loop-k.k c.index-asked-k.result c.loop-k-test.true c.index-asked-k.is
    _ _ _ _ c.in_ok-push_separator.ensures c.in_ok-push_choice.ensures c.loop-k.invariant

pub returns : goal.returns
returns c =
    let text = choice_json (spec_of c.args.checked.now.spec) in
    let asked = c.args.asked.now in
    let last = listed_end text asked_said asked c.loop-k.k c.loop-k-test.false c.loop-k.out.items _ c.loop-k.invariant in
    ok_then c.extend_from_slice-2.result _ _ (closed c.args.out.now.items (codes "[") (join_by text (codes ",") (map asked_said asked)) (codes "]") c.loop-k.out.items _ last) (ok_added c.extend_from_slice-2.result _ _ _ c.extend_from_slice-2.ensures.items)
