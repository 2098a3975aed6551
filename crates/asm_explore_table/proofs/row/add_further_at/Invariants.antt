use Rattle.std.proofs.Common.{◌≡◌, ◌++◌, map, take}
use Rattle.asm_explore_texts.specs.Comments.{comments, lines_of}
use Rattle.asm_explore_table.specs.Lines.{blanks, placed}
use Rattle.asm_explore_table.proofs.row.add_further_at.Given as goal

-- the first of the lines
abbrev pub invariant-loop-k : goal.invariant-loop-k
invariant-loop-k l = l.out.items ≡ l.fn.out.items ++ comments (map (λ text. placed (blanks l.width) l.start text) (lines_of (take l.k l.lines)))
