use Rattle.std.proofs.Common.{◌≡◌, take}
use Rattle.asm_explore.specs.WrittenScripts.{lines_said}
use Rattle.asm_explore_report.specs.Commented.{said_by}
use Rattle.asm_explore_report.proofs.commented.lines_alone.Given as goal

abbrev pub invariant-loop-i : goal.invariant-loop-i
invariant-loop-i l = lines_said l.lines.items ≡ said_by (take l.i l.entries)
