use Rattle.std.proofs.Common.{◌≡◌, ℕ, ◌+◌, ◌≤◌, false, length, drop}
use Rattle.asm_state.specs.Updates.{widen}
use Rattle.asm_updates.specs.code.SummaryRanges.{first_range, AreRanges}
use Rattle.asm_updates.specs.code.IndexedRanges.{HasOneValue}
use Rattle.asm_updates.proofs.summary.widen_all.Given as goal

-- the entries that are left make of the set what all of them make of it as it was, and there is
-- room for them
abbrev pub invariant-loop-i : goal.invariant-loop-i
invariant-loop-i l = record {
  room : length l.others.ranges ≤ l.ranges.spare + l.i;
  own : AreRanges l.others.count l.others.ranges;
  sound : AreRanges l.others.count l.ranges.entries;
  entries : (k : ℕ) → widen (first_range l.ranges.entries k) (first_range (drop l.i l.others.ranges) k) ≡ widen (first_range l.initial.ranges.entries k) (first_range l.others.ranges k);
  alike : l.some_have_two ≡ false → (k : ℕ) → HasOneValue (first_range l.initial.ranges.entries k) → HasOneValue (first_range l.ranges.entries k);
}
