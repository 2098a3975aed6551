use Rattle.std.proofs.Common.{◌≡◌, ◌≤◌, ◌++◌, drop}
use Rattle.std.specs.Prelude.{slice_range}
use Rattle.asm_explore_texts.specs.Comments.{lines_of}
use Rattle.asm_explore_report.specs.TraceLines.{lines_behind, text_lines}
use Rattle.asm_explore_report.proofs.trace_lines.add_lines.Given as goal

abbrev pub invariant-loop-at : goal.invariant-loop-at
invariant-loop-at l =
    (l.start ≤ l.at)
    × (lines_of l.lines.items ++ lines_behind (drop l.at l.text) (slice_range l.text l.start l.at) ≡ lines_of l.initial.lines.items ++ text_lines l.text)
