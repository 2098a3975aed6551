use Rattle.std.proofs.Common.{◌≡◌, ◌++◌, take}
use Rattle.asm_explore_texts.specs.Comments.{in_one_line}
use Rattle.asm_explore_texts.proofs.comment.add_in_one_line.Given as goal

abbrev pub invariant-loop-byte : goal.invariant-loop-byte
invariant-loop-byte l = l.text.items ≡ l.initial.text.items ++ in_one_line (take l.byte-index l.bytes)
