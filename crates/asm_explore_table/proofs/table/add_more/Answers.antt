use Rattle.std.proofs.Common.{◌∙◌, ◌++◌, ap}
use Rattle.asm_explore_texts.specs.Comments.{comment}
use Rattle.asm_explore_table.proofs.TableLines.{more_said, ok_then}
use Rattle.asm_explore_table.proofs.table.add_more.Goals as goal

pub returns : goal.returns
returns c =
    let out = c.args.out.now.items in
    let line = ap comment (c.as_bytes.ensures.value ∙ c.in_ok-line.ensures.ok) in
    ok_then c.add_comment.result _ _ (λ is. is ∙ ap (λ t. out ++ t) (line ∙ more_said c.args.more c.if-more-eq0.false)) c.add_comment.ensures
