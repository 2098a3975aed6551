use Rattle.std.proofs.Common.{◌≡◌, ◌<◌, ℕ, get_or}
use Rattle.std.specs.Map.{keys_of}
use Rattle.asm_updates.specs.code.Positions.{position_of}
use Rattle.asm_updates.proofs.ranges.set_all_positions.Given as goal

-- the locations so far have their positions
abbrev pub invariant-loop-i : goal.invariant-loop-i
invariant-loop-i l = (j : ℕ) → j < l.i → position_of l.positions (get_or (keys_of l.entries) j 0) ≡ j
