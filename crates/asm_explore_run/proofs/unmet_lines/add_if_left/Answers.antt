use Rattle.std.proofs.Common.{◌∙◌, ap, sym}
use Rattle.asm_explore_texts.specs.Comments.{lines_of}
use Rattle.asm_explore_run.specs.UnmetLines.{unmet_line}
use Rattle.asm_explore_run.specs.code.LineKeys.{has_said}
use Rattle.asm_explore_run.proofs.UnmetTexts.{said_more, said_same}
use Rattle.asm_explore_run.proofs.unmet_lines.add_if_left.Goals as goal

pub returns-in_ok-push : goal.returns-in_ok-push
returns-in_ok-push c =
    let line = c.args.line.now in
    ap lines_of c.in_ok-push.ensures.items
    ∙ said_more c.args.said.now.items c.in_ok-comment.comment (unmet_line c.args.number line) (has_said line c.args.keys.now) c.in_ok-comment.ensures (sym c.in_ok-is_left.ensures ∙ c.if-is_left.true)

pub returns-else-is_left : goal.returns-else-is_left
returns-else-is_left c =
    let line = c.args.line.now in said_same c.args.said.now.items (unmet_line c.args.number line) (has_said line c.args.keys.now) (sym c.in_ok-is_left.ensures ∙ c.if-is_left.false)
