use Rattle.std.proofs.Common.{◌≡◌, take}
use Rattle.asm_graph.proofs.find_node.is_same_state.Given as goal

-- the first contents are the same
abbrev pub invariant-loop-n : goal.invariant-loop-n
invariant-loop-n l = take l.n l.left ≡ take l.n l.right
