use Rattle.std.proofs.Common.{◌≡◌, ◌+◌, ◌++◌, drop}
use Rattle.asm_explore_texts.specs.Conditions.{texts_of}
use Rattle.asm_explore_texts.specs.Comments.{lines_of}
use Rattle.asm_explore_report.specs.Facts.{always_lines, lines_from}
use Rattle.asm_explore_report.proofs.facts.add_always.Given as goal

abbrev pub invariant-loop-k : goal.invariant-loop-k
invariant-loop-k l = lines_of l.lines.items ++ lines_from (l.k + 1) (texts_of (drop l.k l.always)) ≡ lines_of l.initial.lines.items ++ always_lines (texts_of l.always)
