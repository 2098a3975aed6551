use Rattle.std.proofs.Common.{length, arith, sym, ap, subst, ◌∙◌, ◌≡◌}
use Rattle.std.specs.Prelude.{slice_get, Some}
use Rattle.asm_explore.proofs.StateLemmas.PackedNodes.{nodes_count, node_at}
use Rattle.asm_explore.proofs.states.nodes.Nodes.depth.Goals as goal

pub index-requires : goal.index-requires
index-requires c =
    let n = c.self.inside in
    let count : length c.args.self.now ≡ length n.links.items = ap length (sym c.self.view_is) ∙ nodes_count n.bytes.items n.words.items 0 0 n.links.items in
    omega (arith, c.requires, count, n.links.ok.0)

pub returns : goal.returns
returns c = λ node there.
    let n = c.self.inside in
    let is = node_at n.bytes.items n.words.items 0 0 n.links.items c.args.number node _ (subst (λ ns. slice_get ns c.args.number ≡ Some node) (sym c.self.view_is) there) in
    ap (λ link. link.depth) c.index.ensures ∙ sym (ap (λ m. m.depth) is)
