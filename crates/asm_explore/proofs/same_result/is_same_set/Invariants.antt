use Rattle.std.proofs.Common.{◌≡◌, take}
use Rattle.asm_explore.proofs.same_result.is_same_set.Given as goal

-- the first entries are the same
abbrev pub invariant-loop-i : goal.invariant-loop-i
invariant-loop-i l = take l.i l.left.ranges ≡ take l.i l.right.ranges
