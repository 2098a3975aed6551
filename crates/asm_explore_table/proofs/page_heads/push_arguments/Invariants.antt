use Rattle.std.proofs.Common.{◌≡◌, ◌++◌, take}
use Rattle.std.specs.List.{flat_map}
use Rattle.asm_syntax.specs.code.Views.{spec_of}
use Rattle.asm_explore_table.specs.Pages.{arguments_cell}
use Rattle.asm_explore_table.proofs.page_heads.push_arguments.Given as goal

-- those of the first columns
abbrev pub invariant-loop-k : goal.invariant-loop-k
invariant-loop-k l = l.out.items ≡ l.fn.out.items ++ flat_map (arguments_cell (spec_of l.checked.spec)) (take l.k l.columns)
