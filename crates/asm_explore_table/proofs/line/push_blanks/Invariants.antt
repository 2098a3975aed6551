use Rattle.std.proofs.Common.{◌≡◌, ◌++◌}
use Rattle.asm_explore_table.specs.Lines.{blanks}
use Rattle.asm_explore_table.proofs.line.push_blanks.Given as goal

-- the blanks so far
abbrev pub invariant-loop : goal.invariant-loop
invariant-loop l = l.line.items ≡ l.fn.line.items ++ blanks l.counter
