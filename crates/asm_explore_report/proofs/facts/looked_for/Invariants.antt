use Rattle.std.proofs.Common.{◌≡◌, ◌+◌, ◌-◌, ◌++◌}
use Rattle.std.specs.String.{string_bytes}
use Rattle.asm_explore_report.specs.Facts.{looked_for, numbered_from}
use Rattle.asm_explore_report.proofs.facts.looked_for.Given as goal

abbrev pub invariant-loop-k : goal.invariant-loop-k
invariant-loop-k l = string_bytes l.line ++ numbered_from (l.k + 1) (l.conditions - l.k) ≡ looked_for l.conditions
