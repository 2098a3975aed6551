use Rattle.std.proofs.Common.{◌≡◌, ◌++◌, take}
use Rattle.std.specs.List.{flat_map}
use Rattle.asm_explore_texts.specs.Comments.{lines_of}
use Rattle.asm_explore_table.specs.Pages.{code_line}
use Rattle.asm_explore_table.proofs.page_text.push_code_lines.Given as goal

-- the first lines
abbrev pub invariant-loop-k : goal.invariant-loop-k
invariant-loop-k l = l.out.items ≡ l.fn.out.items ++ flat_map code_line (lines_of (take l.k l.lines))
