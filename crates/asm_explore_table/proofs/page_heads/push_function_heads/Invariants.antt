use Rattle.std.proofs.Common.{◌≡◌, ◌++◌, drop}
use Rattle.asm_syntax.specs.code.Views.{spec_of}
use Rattle.asm_explore_table.specs.Pages.{function_heads}
use Rattle.asm_explore_table.proofs.page_heads.push_function_heads.Given as goal

-- with those of the other columns they are all
abbrev pub invariant-loop-k : goal.invariant-loop-k
invariant-loop-k l = let s = spec_of l.checked.spec in l.out.items ++ function_heads s (drop l.k l.columns) ≡ l.fn.out.items ++ function_heads s l.columns
