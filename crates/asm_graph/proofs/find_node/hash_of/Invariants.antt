use Rattle.std.proofs.Common.{◌≡◌, take}
use Rattle.asm_graph.specs.code.GraphSoFar.{hash_in}
use Rattle.asm_graph.proofs.find_node.hash_of.Given as goal

-- the hash of the first contents
abbrev pub invariant-loop-n : goal.invariant-loop-n
invariant-loop-n l = l.hash ≡ hash_in (take l.n l.state)
