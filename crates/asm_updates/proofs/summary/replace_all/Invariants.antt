use Rattle.std.proofs.Common.{◌≡◌, ℕ, ◌+◌, ◌≤◌, length, drop}
use Rattle.asm_state.specs.Updates.{later_range}
use Rattle.asm_updates.specs.code.SummaryRanges.{first_range, AreRanges}
use Rattle.asm_updates.proofs.summary.replace_all.Given as goal

-- the entries that are left make of the set what all of them make of it as it was, and there is
-- room for them
abbrev pub invariant-loop-i : goal.invariant-loop-i
invariant-loop-i l = record {
  room : length l.later.ranges ≤ l.ranges.spare + l.i;
  own : AreRanges l.later.count l.later.ranges;
  sound : AreRanges l.later.count l.ranges.entries;
  entries : (k : ℕ) → later_range (first_range l.ranges.entries k) (first_range (drop l.i l.later.ranges) k) ≡ later_range (first_range l.initial.ranges.entries k) (first_range l.later.ranges k);
}
