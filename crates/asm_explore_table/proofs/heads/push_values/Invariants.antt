use Rattle.std.proofs.Common.{◌≡◌, ◌++◌, take}
use Rattle.asm_syntax.specs.code.Views.{spec_of}
use Rattle.asm_explore_table.specs.Tables.{joined_values}
use Rattle.asm_explore_table.proofs.heads.push_values.Given as goal

-- the first values
abbrev pub invariant-loop-k : goal.invariant-loop-k
invariant-loop-k l = l.head.items ≡ l.fn.head.items ++ joined_values (spec_of l.checked.spec) (take l.k l.values)
