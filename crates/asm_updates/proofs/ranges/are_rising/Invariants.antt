use Rattle.std.proofs.Common.{◌<◌, ◌+◌, ℕ}
use Rattle.std.specs.Prelude.{slice_index}
use Rattle.std.specs.Map.{keys_of}
use Rattle.asm_updates.proofs.ranges.are_rising.Given as goal

-- the locations so far rise
abbrev pub invariant-loop-i : goal.invariant-loop-i
invariant-loop-i l = (k : ℕ) → k + 1 < l.i → slice_index (keys_of l.entries) k < slice_index (keys_of l.entries) (k + 1)
