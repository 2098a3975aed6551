use Rattle.std.proofs.Common.{◌≡◌, cond, false, take}
use Rattle.asm_reader.specs.ScriptLines.{SaidLine}
use Rattle.asm_explore.specs.WrittenScripts.{lines_said}
use Rattle.asm_explore_run.specs.UnmetLines.{is_met}
use Rattle.asm_explore_run.specs.code.LineKeys.{has_line}
use Rattle.asm_explore_run.proofs.unmet_lines.remove_met.Given as goal

-- without the lines that the choices so far meet
abbrev pub invariant-loop-k : goal.invariant-loop-k
invariant-loop-k l = (line : SaidLine) → has_line line l.keys ≡ cond (is_met (lines_said (take l.k l.made)) line) false (has_line line l.fn.keys)
