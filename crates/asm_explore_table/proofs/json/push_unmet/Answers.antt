use Rattle.std.proofs.Common.{◌≤◌, ◌∙◌, ◌++◌, Vec, Global, ℕ, ap, append_assoc, subst, sym}
use Rattle.std.specs.Prelude.{codes}
use Rattle.std.proofs.lemmas.List.{length-map}
use Rattle.asm_explore_texts.specs.Comments.{lines_of}
use Rattle.asm_explore_table.specs.JsonTexts.{list_by, string_text}
use Rattle.asm_explore_table.proofs.JsonTexts.{unmet_said}
use Rattle.asm_explore_table.proofs.TableLines.{ok_then}
use Rattle.asm_explore_table.proofs.json.push_unmet.Goals as goal

pub returns-in_ok-extend_from_slice-in_default : goal.returns-in_ok-extend_from_slice-in_default
returns-in_ok-extend_from_slice-in_default c =
    let out = c.args.out.now.items in
    let unmet = c.args.unmet.now in
    let lines = list_by string_text (lines_of unmet) in
    let some = subst (λ n. 1 ≤ n) (sym (length-map unmet (λ (line : Vec ℕ Global). line.items))) c.in_default.len_at_least in
    ok_then c.push_lines.result _ _
    (λ added. added ∙ ap (λ t. t ++ lines) c.in_ok-extend_from_slice-in_default.ensures.items ∙ append_assoc out (codes ",\"unmet\":") lines ∙ ap (λ t. out ++ t) (unmet_said (lines_of unmet) some))
    c.push_lines.ensures
