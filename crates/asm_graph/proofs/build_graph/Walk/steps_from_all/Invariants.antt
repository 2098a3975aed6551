use Rattle.std.proofs.Common.{◌≡◌, ◌≤◌, ◌+◌, ◌-◌, length, take}
use Rattle.std.specs.Prelude.{Some, slice_get}
use Rattle.asm_graph.specs.declared.graph.Node.{Node}
use Rattle.asm_graph.specs.Graphs.{AreFound, IsShown, Pairs}
use Rattle.asm_graph.specs.code.GraphSoFar.{AreNear, AreNodesRight, AreShallow}
use Rattle.asm_graph.specs.code.ResolvedMachines.{crowds_in, rests_in, right_in, shape_in, specification_in, within_in}
use Rattle.asm_graph.proofs.build_graph.Walk.steps_from_all.Given as goal

-- the steps so far are those from the first nodes, and lead to all others; no node is more than one
-- step deeper than the next one
abbrev pub invariant-loop-made : goal.invariant-loop-made
invariant-loop-made l = record {
  some : length l.made.items ≤ length l.nodes.items;
  kept : AreNodesRight (shape_in l.self.machine.now) (specification_in l.self.machine.now) l.self.machine.now.turns (within_in l.self.machine.now) (right_in l.self.machine.now) (rests_in l.self.machine.now) l.self.steps l.self.most l.nodes.items;
  first : slice_get l.nodes.items 0 ≡ slice_get l.initial.nodes.items 0;
  next : (n : Node) → slice_get l.nodes.items (length l.made.items) ≡ Some n → AreShallow (n.depth + 1) l.nodes.items;
  shown : Pairs (IsShown (shape_in l.self.machine.now) (specification_in l.self.machine.now) l.self.machine.now.turns (within_in l.self.machine.now) (crowds_in l.self.machine.now) l.self.steps l.nodes.items) (take (length l.made.items) l.nodes.items) l.made.items;
  near : Pairs (AreNear l.nodes.items) (take (length l.made.items) l.nodes.items) l.made.items;
  found : AreFound l.nodes.items l.made.items;
}

abbrev pub decreases-loop-made : goal.decreases-loop-made
decreases-loop-made l = l.self.most - length l.made.items
