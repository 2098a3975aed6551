use Rattle.std.proofs.Common.{◌∙◌, ap, length}
use Rattle.asm_explore.proofs.states.indexed_nodes.IndexedNodes.len.Goals as goal

pub returns : goal.returns
returns c = c.len.ensures ∙ ap length c.self.view_is
