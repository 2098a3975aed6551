use Rattle.std.proofs.Common.{◌∙◌, ◌++◌, ap}
use Rattle.asm_explore_texts.specs.Comments.{comment}
use Rattle.asm_explore_run.proofs.ClashLines.{ok_then, rest_said}
use Rattle.asm_explore_run.proofs.clash_text.add_rest.Goals as goal

pub returns : goal.returns
returns c =
    let text = c.args.text.now.items in
    let line = ap comment (c.as_bytes.ensures.value ∙ c.in_ok-line.ensures.ok) in
    ok_then c.add_comment.result _ _ (λ is. is ∙ ap (λ t. text ++ t) (line ∙ rest_said c.args.rest c.if-rest-eq0.false)) c.add_comment.ensures
