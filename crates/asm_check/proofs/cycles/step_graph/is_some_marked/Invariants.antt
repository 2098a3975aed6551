use Rattle.std.proofs.Common.{◌≡◌, ℕ, ◌<◌, false, get_or}
use Rattle.asm_check.specs.code.cycles.MarkedNodes.{is_marked}
use Rattle.asm_check.proofs.cycles.step_graph.is_some_marked.Given as goal

abbrev pub invariant-loop-node : goal.invariant-loop-node
invariant-loop-node l = (k : ℕ) → k < l.node-index → is_marked l.marks (get_or l.nodes k 0) ≡ false
