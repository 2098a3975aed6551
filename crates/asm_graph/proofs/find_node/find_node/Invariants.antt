use Rattle.std.proofs.Common.{◌≢◌, take}
use Rattle.asm_explore.specs.ListElements.{Each}
use Rattle.asm_graph.specs.declared.graph.Node.{Node}
use Rattle.asm_graph.proofs.find_node.find_node.Given as goal

-- the first have other states
abbrev pub invariant-loop-number : goal.invariant-loop-number
invariant-loop-number l = Each (λ (n : Node). n.state ≢ l.state) (take l.number l.nodes)
