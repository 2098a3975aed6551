use Rattle.std.proofs.Common.{◌≡◌, map, take}
use Rattle.std.specs.Str.Lines.{strip_carriage_return}
use Rattle.asm_explore_texts.specs.Comments.{lines_of}
use Rattle.asm_explore_run.specs.code.LineKeys.{left_from}
use Rattle.asm_explore_run.proofs.unmet_lines.said_of_left.Given as goal

-- what is said of the lines so far
abbrev pub invariant-loop-i : goal.invariant-loop-i
invariant-loop-i l = lines_of l.said.items ≡ left_from 1 l.keys (map (λ l. strip_carriage_return l.now) (take l.i l.lines))
