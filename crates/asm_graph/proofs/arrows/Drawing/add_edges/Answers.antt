use Rattle.std.proofs.Common.{◌++◌, ◌∷◌, ◌∙◌, [], refl, subst, sym, take}
use Rattle.asm_syntax.specs.code.Views.{spec_of}
use Rattle.asm_graph.specs.Arrows.{drawn_from, edges_in}
use Rattle.asm_graph.specs.code.DrawnArrows.{IsArrow}
use Rattle.asm_graph.specs.Graphs.{Pairs}
use Rattle.asm_graph.proofs.DrawnArrows.{edges_more}
use Rattle.asm_graph.proofs.Paired.{pairs_push}
use Rattle.asm_graph.proofs.arrows.Drawing.add_edges.Goals as goal

pub loop-k-preserved : goal.loop-k-preserved
loop-k-preserved c = λ path marks before are.
    let m = c.args.self.now.resolved.now in
    let s = spec_of m.checked.now.spec in
    let n = c.args.node.now in
    let i = c.args.number in
    let es = c.args.edges.now in
    let k = c.loop-k.k in
    let e = c.index-edges-k.result in
    let drawn = before ++ edges_in i n (take k es) in
    let new = c.push.new.self.items in
    subst (λ ds. Pairs (IsArrow s m.turns path) ds new) (edges_more before i n es k e c.loop-k-test.true c.index-edges-k.is)
    (subst (Pairs (IsArrow s m.turns path) (drawn ++ drawn_from i n (k, e) ∷ [])) (sym c.in_ok-push.ensures.items)
    (pairs_push (IsArrow s m.turns path) drawn c.loop-k.arrows.items _ _ (c.loop-k.invariant path marks before are)
    (record { from = refl; to = refl; label = c.in_ok-label.ensures; red = c.has-is_red.ensures ∙ marks i k })))
