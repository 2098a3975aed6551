use Rattle.std.proofs.Common.{◌≡◌, map, take, true}
use Rattle.std.specs.Str.Lines.{strip_carriage_return}
use Rattle.asm_explore_run.specs.code.LineKeys.{have_lines}
use Rattle.asm_explore_run.proofs.unmet_lines.keys_of.Given as goal

-- the keys of the lines so far
abbrev pub invariant-loop-i : goal.invariant-loop-i
invariant-loop-i l = have_lines l.keys (map (λ l. strip_carriage_return l.now) (take l.i l.lines)) ≡ true
