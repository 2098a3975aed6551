use Rattle.std.proofs.Common.{subst, take}
use Rattle.asm_syntax.specs.code.Views.{spec_of}
use Rattle.asm_graph.specs.Arrows.{all_edges}
use Rattle.asm_graph.specs.code.DrawnArrows.{IsArrow}
use Rattle.asm_graph.specs.Graphs.{Pairs}
use Rattle.asm_graph.proofs.DrawnArrows.{all_more}
use Rattle.asm_graph.proofs.arrows.Drawing.arrows.Goals as goal

pub loop-number-preserved : goal.loop-number-preserved
loop-number-preserved c = λ path marks.
    let m = c.args.self.now.resolved.now in
    let s = spec_of m.checked.now.spec in
    let nodes = c.args.nodes.now in
    let steps = c.args.steps.now in
    let k = c.loop-number.number in
    subst (λ ds. Pairs (IsArrow s m.turns path) ds c.add_step.new.arrows.items)
    (all_more nodes steps k c.index-nodes-number.result c.index-steps-number.result c.loop-number-test.true c.requires.paired c.index-nodes-number.is c.index-steps-number.is)
    (c.in_ok-add_step.ensures path marks (all_edges 0 (take k nodes) (take k steps)) (c.loop-number.invariant path marks))
