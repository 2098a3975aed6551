use Rattle.std.proofs.Common.{◌≡◌, take}
use Rattle.asm_explore.proofs.states.nodes.are_same.Given as goal

-- the first words are the same
abbrev pub invariant-loop-i : goal.invariant-loop-i
invariant-loop-i l = take l.i l.left ≡ take l.i l.right
