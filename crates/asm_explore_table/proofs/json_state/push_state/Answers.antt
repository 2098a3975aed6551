use Rattle.std.proofs.Common.{◌∙◌, ◌++◌, ℕ, List, ap, map, sym}
use Rattle.std.specs.Prelude.{codes}
use Rattle.std.specs.List.{join_by}
use Rattle.asm_state.specs.Signature.{state_of}
use Rattle.asm_syntax.specs.code.Views.{spec_of}
use Rattle.asm_check.specs.Shapes.{shape_of}
use Rattle.asm_explore_table.specs.JsonRows.{location_member}
use Rattle.asm_explore_table.specs.JsonTexts.{member_text}
use Rattle.asm_explore_table.specs.code.JsonParts.{locations_in}
use Rattle.asm_explore_table.specs.declared.json_state.JsonColumn.{JsonColumn}
use Rattle.asm_explore_table.proofs.JsonLists.{closed, listed_end, listed_step, mapped_twice, ok_added}
use Rattle.asm_explore_table.proofs.TableLines.{ok_then}
use Rattle.asm_explore_table.proofs.json_state.push_state.Goals as goal

pub loop-k-init : goal.loop-k-init
loop-k-init c =
    let s = spec_of c.args.checked.now.spec in
    let A = state_of (shape_of s) c.args.state.now in
    let location : JsonColumn → ℕ = λ c. c.location in
    ap (λ ms. c.extend_from_slice.new.self.items ++ join_by member_text (codes ",") ms) (sym (mapped_twice (location_member s A) location c.args.columns.now)) ∙ ap (λ t. t ++ join_by member_text (codes ",") (map (location_member s A) (locations_in c.args.columns.now))) c.in_ok-extend_from_slice.ensures.items

pub loop-k-preserved : goal.loop-k-preserved
loop-k-preserved c =
    let s = spec_of c.args.checked.now.spec in
    let member : JsonColumn → List ℕ × List ℕ = λ column. location_member s (state_of (shape_of s) c.args.state.now) column.location in
    listed_step member_text member c.args.columns.now c.loop-k.k c.index-columns-k.result c.loop-k-test.true c.index-columns-k.is
    _ _ _ _ c.in_ok-push_separator.ensures c.in_ok-push_content.ensures c.loop-k.invariant

pub returns : goal.returns
returns c =
    let s = spec_of c.args.checked.now.spec in
    let A = state_of (shape_of s) c.args.state.now in
    let member : JsonColumn → List ℕ × List ℕ = λ column. location_member s A column.location in
    let columns = c.args.columns.now in
    let last = listed_end member_text member columns c.loop-k.k c.loop-k-test.false c.loop-k.out.items _ c.loop-k.invariant in
    ok_then c.extend_from_slice-2.result _ _ (closed c.args.out.now.items (codes "{") (join_by member_text (codes ",") (map (location_member s A) (locations_in columns))) (codes "}") c.loop-k.out.items _ last)
    (ok_added c.extend_from_slice-2.result _ _ _ c.extend_from_slice-2.ensures.items)
