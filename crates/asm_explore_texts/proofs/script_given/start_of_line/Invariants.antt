use Rattle.std.proofs.Common.{◌≡◌, ◌+◌, drop}
use Rattle.asm_explore_texts.specs.Positions.{after_feeds, line_start}
use Rattle.asm_explore_texts.proofs.script_given.start_of_line.Given as goal

-- where the line begins, from here on
abbrev pub invariant-loop-at : goal.invariant-loop-at
invariant-loop-at l = line_start l.text l.number ≡ l.at + after_feeds l.before (drop l.at l.text)
