use Rattle.std.proofs.Common.{◌≡◌, None, drop}
use Rattle.asm_syntax.specs.code.Views.{spec_of}
use Rattle.asm_explore_table.specs.Tables.{with_functions}
use Rattle.asm_explore_table.proofs.heads.add_functions.Given as goal

-- with the names of the other columns the line is whole
abbrev pub invariant-loop-k : goal.invariant-loop-k
invariant-loop-k l = with_functions (spec_of l.checked.spec) l.before l.line.items (drop l.k l.columns) ≡ with_functions (spec_of l.checked.spec) None l.fn.line.items l.columns
