use Rattle.std.proofs.Common.{◌≡◌, ◌+◌, drop}
use Rattle.asm_explore_table.specs.Pages.{more_of_function}
use Rattle.asm_explore_table.proofs.page_columns.more_of_function.Given as goal

-- the first columns are of this function
abbrev pub invariant-loop-k : goal.invariant-loop-k
invariant-loop-k l = more_of_function (drop l.k l.columns) + l.k ≡ more_of_function l.columns
