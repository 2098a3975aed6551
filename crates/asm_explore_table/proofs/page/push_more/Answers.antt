use Rattle.std.proofs.Common.{◌∙◌, ◌++◌, ap}
use Rattle.asm_explore_table.specs.Pages.{paragraph}
use Rattle.asm_explore_table.proofs.PageTables.{more_paragraph}
use Rattle.asm_explore_table.proofs.TableLines.{ok_then}
use Rattle.asm_explore_table.proofs.page.push_more.Goals as goal

pub returns : goal.returns
returns c =
    let out = c.args.out.now.items in
    let line = ap paragraph (c.as_bytes.ensures.value ∙ c.in_ok-line.ensures.ok) in
    ok_then c.push_paragraph.result _ _ (λ is. is ∙ ap (λ t. out ++ t) (line ∙ more_paragraph c.args.more c.if-more-eq0.false)) c.push_paragraph.ensures
