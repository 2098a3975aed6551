use Rattle.std.proofs.Common.{◌≡◌, take}
use Rattle.asm_explore_run.proofs.line_keys.widened.Given as goal

-- the numbers so far
abbrev pub invariant-loop-number : goal.invariant-loop-number
invariant-loop-number l = l.wide.items ≡ take l.number-index l.numbers
