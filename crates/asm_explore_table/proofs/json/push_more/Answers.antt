use Rattle.std.proofs.Common.{◌∙◌, ◌++◌, ap, append_assoc}
use Rattle.std.specs.Prelude.{codes, decimal}
use Rattle.asm_explore_table.proofs.JsonLists.{ok_added}
use Rattle.asm_explore_table.proofs.JsonTexts.{more_said}
use Rattle.asm_explore_table.proofs.TableLines.{ok_then}
use Rattle.asm_explore_table.proofs.json.push_more.Goals as goal

pub returns : goal.returns
returns c =
    let out = c.args.out.now.items in
    let digits = c.as_bytes.ensures.value ∙ c.in_ok-digits.ensures.ok in
    ok_then c.extend_from_slice-2.result _ _
    (λ added. added ∙ (λ j. c.in_ok-extend_from_slice.ensures.items j ++ digits j) ∙ append_assoc out (codes ",\"more\":") (decimal c.args.more)
    ∙ ap (λ t. out ++ t) (more_said c.args.more c.if-more-eq0.false))
    (ok_added c.extend_from_slice-2.result _ _ _ c.extend_from_slice-2.ensures.items)
