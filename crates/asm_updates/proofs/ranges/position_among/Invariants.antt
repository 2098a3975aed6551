use Rattle.std.proofs.Common.{◌≡◌, drop}
use Rattle.asm_updates.specs.code.SummaryRanges.{first_range}
use Rattle.asm_updates.proofs.ranges.position_among.Given as goal

-- what is found is found among the entries that are left
abbrev pub invariant-loop-i : goal.invariant-loop-i
invariant-loop-i l = first_range (drop l.i l.entries) l.n ≡ first_range l.entries l.n
