use Rattle.std.proofs.Common.{◌≡◌, drop}
use Rattle.asm_syntax.specs.code.Views.{spec_of}
use Rattle.asm_explore_table.specs.Tables.{arguments_head, with_cells}
use Rattle.asm_explore_table.proofs.heads.add_arguments.Given as goal

-- with the arguments of the other columns the line is whole
abbrev pub invariant-loop-k : goal.invariant-loop-k
invariant-loop-k l = with_cells (arguments_head (spec_of l.checked.spec)) l.line.items (drop l.k l.columns) ≡ with_cells (arguments_head (spec_of l.checked.spec)) l.fn.line.items l.columns
