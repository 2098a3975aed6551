use Rattle.std.proofs.Common.{◌∙◌, ◌++◌, Vec, Global, ℕ, List, ap}
use Rattle.std.specs.Prelude.{codes}
use Rattle.std.specs.List.{join_by}
use Rattle.asm_explore_texts.specs.Comments.{lines_of}
use Rattle.asm_explore_table.specs.JsonTexts.{string_text}
use Rattle.asm_explore_table.proofs.JsonLists.{closed, listed_end, listed_step, ok_added}
use Rattle.asm_explore_table.proofs.TableLines.{ok_then}
use Rattle.asm_explore_table.proofs.json.push_lines.Goals as goal

pub loop-k-preserved : goal.loop-k-preserved
loop-k-preserved c =
    let view : Vec ℕ Global → List ℕ = λ line. line.items in
    listed_step string_text view c.args.lines.now c.loop-k.k c.index-lines-k.result c.loop-k-test.true c.index-lines-k.is
    _ c.push_separator.new.out.items _ _ c.in_ok-push_separator.ensures (c.in_ok-push_string.ensures ∙ ap (λ t. c.push_separator.new.out.items ++ string_text t) c.as_slice.ensures.value) c.loop-k.invariant

pub returns : goal.returns
returns c =
    let lines = c.args.lines.now in
    let last = listed_end string_text (λ (line : Vec ℕ Global). line.items) lines c.loop-k.k c.loop-k-test.false c.loop-k.out.items _ c.loop-k.invariant in
    ok_then c.extend_from_slice-2.result _ _ (closed c.args.out.now.items (codes "[") (join_by string_text (codes ",") (lines_of lines)) (codes "]") c.loop-k.out.items _ last) (ok_added c.extend_from_slice-2.result _ _ _ c.extend_from_slice-2.ensures.items)
