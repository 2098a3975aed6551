use Rattle.std.proofs.Common.{◌∙◌, ◌++◌, ◌≤◌, map, subst}
use Rattle.std.specs.Prelude.{codes}
use Rattle.std.specs.List.{join_by}
use Rattle.asm_syntax.specs.code.Views.{spec_of}
use Rattle.asm_explore_texts.specs.code.TextPlaces.{elements_said}
use Rattle.asm_explore_table.specs.JsonRows.{element_member, unhidden}
use Rattle.asm_explore_table.specs.JsonTexts.{member_text}
use Rattle.asm_explore_table.specs.code.JsonParts.{listed_from}
use Rattle.asm_explore_table.proofs.JsonElements.{behind_first, elements_end, whole}
use Rattle.asm_explore_table.proofs.JsonLists.{closed, ok_added}
use Rattle.asm_explore_table.proofs.TableLines.{ok_then}
use Rattle.asm_explore_table.proofs.json_choices.push_elements.Goals as goal

pub loop-k-preserved : goal.loop-k-preserved
loop-k-preserved c =
    let s = spec_of c.args.checked.now.spec in
    let xs = c.args.variables.now in
    let vs = c.args.elements.now in
    let k = c.loop-k.k in
    let all = element_member s in
    let old = c.loop-k.out.items in
    let new = c.push_first_element.new.out.items in
    (λ j. new ++ listed_from member_text c.in_ok-is_first.is_first (map all (unhidden (elements_said (behind_first k xs j) (behind_first k vs j)))))
    ∙ c.in_ok-is_first.ensures ∙ (λ j. old ++ listed_from member_text c.loop-k.is_first (map all (unhidden (elements_said (whole k xs j) (whole k vs j))))) ∙ c.loop-k.invariant

pub returns : goal.returns
returns c =
    let s = spec_of c.args.checked.now.spec in
    let xs = c.args.variables.now in
    let vs = c.args.elements.now in
    let l = c.loop-k in
    let last = elements_end (element_member s) l.is_first xs vs l.k (subst (λ n. n ≤ l.k) c.min-k-end.ensures c.loop-k-test.false) l.out.items _ l.invariant in
    ok_then c.extend_from_slice-2.result _ _ (closed c.args.out.now.items (codes "{") (join_by member_text (codes ",") (map (element_member s) (unhidden (elements_said xs vs)))) (codes "}") l.out.items _ last)
    (ok_added c.extend_from_slice-2.result _ _ _ c.extend_from_slice-2.ensures.items)
