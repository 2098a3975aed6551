use Rattle.asm_updates.proofs.RangesGathered.{AreGathered}
use Rattle.asm_updates.proofs.ranges.gather_entries.Given as goal

-- the entries of the locations so far are gathered
abbrev pub invariant-loop-n : goal.invariant-loop-n
invariant-loop-n l = AreGathered l.count l.entries.items l.gathered.items l.n
