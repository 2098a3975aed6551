use Rattle.std.proofs.Common.{◌≡◌, ◌++◌, take}
use Rattle.asm_explore_texts.specs.Comments.{comments, lines_of}
use Rattle.asm_explore_texts.proofs.comment.add_comments.Given as goal

abbrev pub invariant-loop-line : goal.invariant-loop-line
invariant-loop-line l = l.text.items ≡ l.initial.text.items ++ comments (lines_of (take l.line-index l.lines))
