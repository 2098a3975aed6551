use Rattle.asm_explore.proofs.states.indexed_nodes.IndexedNodes.nodes.Goals as goal

pub returns : goal.returns
returns c = c.self.view_is
