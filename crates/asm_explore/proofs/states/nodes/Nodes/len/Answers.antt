use Rattle.std.proofs.Common.{length, sym, ap, ◌∙◌}
use Rattle.asm_explore.proofs.StateLemmas.PackedNodes.{nodes_count}
use Rattle.asm_explore.proofs.states.nodes.Nodes.len.Goals as goal

pub returns : goal.returns
returns c =
    let n = c.self.inside in
    c.len.ensures ∙ n.links.ok.0 ∙ sym (nodes_count n.bytes.items n.words.items 0 0 n.links.items) ∙ ap length c.self.view_is
