use Rattle.std.proofs.Common.{◌≡◌, ◌++◌, take}
use Rattle.std.specs.Prelude.{codes}
use Rattle.std.specs.List.{flat_map}
use Rattle.asm_explore_texts.specs.Comments.{lines_of}
use Rattle.asm_explore_table.specs.Pages.{escaped}
use Rattle.asm_explore_table.proofs.page_cells.push_further.Given as goal

-- the first lines
abbrev pub invariant-loop-k : goal.invariant-loop-k
invariant-loop-k l = l.out.items ≡ l.fn.out.items ++ flat_map (λ line. codes "<br>" ++ escaped line) (lines_of (take l.k l.lines))
