use Rattle.std.proofs.Common.{◌≡◌, ◌++◌, drop}
use Rattle.asm_explore_texts.specs.Comments.{lines_of}
use Rattle.asm_explore_table.specs.ChosenTexts.{wrapped, wrapped_behind}
use Rattle.asm_explore_table.proofs.chosen_lines.wrapped.Given as goal

-- with the others behind them the lines are all
abbrev pub invariant-loop-k : goal.invariant-loop-k
invariant-loop-k l = lines_of l.lines.items ++ wrapped_behind l.line.items (lines_of (drop l.k l.others)) ≡ wrapped (lines_of l.pieces)
