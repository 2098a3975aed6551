use Rattle.std.proofs.Common.{◌≡◌, ◌++◌, drop}
use Rattle.asm_explore_table.specs.Pages.{empty_cells}
use Rattle.asm_explore_table.proofs.page_cells.push_empty_cells.Given as goal

-- with those of the other columns they are all
abbrev pub invariant-loop-k : goal.invariant-loop-k
invariant-loop-k l = l.out.items ++ empty_cells (drop l.k l.columns) ≡ l.fn.out.items ++ empty_cells l.columns
