use Rattle.std.proofs.Common.{◌≡◌, ◌+◌, take}
use Rattle.asm_state.specs.Signature.{state_of}
use Rattle.asm_explore.specs.code.OutcomeLists.{AnyOf}
use Rattle.asm_graph.specs.declared.graph.Edge.{Edge}
use Rattle.asm_graph.specs.declared.graph.EdgeEnd.TheVariants as target
use Rattle.asm_graph.specs.Graphs.{Pairs}
use Rattle.asm_graph.specs.code.GraphSoFar.{AreNew, IsFollowed, NodesGrow}
use Rattle.asm_graph.specs.code.ResolvedMachines.{rests_in, right_in, shape_in, specification_in, within_in}
use Rattle.asm_graph.proofs.build_graph.Walk.edges_from.Given as goal

-- the edges so far follow the first outcomes, and lead to the nodes that are new
abbrev pub invariant-loop-k : goal.invariant-loop-k
invariant-loop-k l = record {
  grows : NodesGrow (shape_in l.self.machine.now) (specification_in l.self.machine.now) l.self.machine.now.turns (within_in l.self.machine.now) (right_in l.self.machine.now) (rests_in l.self.machine.now) l.self.steps l.self.most (l.depth + 1) l.initial.nodes.items l.nodes.items;
  follow : Pairs (IsFollowed (shape_in l.self.machine.now) (specification_in l.self.machine.now) l.self.machine.now.turns l.nodes.items (state_of (shape_in l.self.machine.now) l.from) (l.depth + 1)) (take l.k l.outcomes) l.edges.items;
  new : AreNew l.initial.nodes.items l.nodes.items (λ i. AnyOf (λ (e : Edge). e.to ≡ target.Node i) l.edges.items);
}
