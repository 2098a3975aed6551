use Rattle.std.proofs.Common.{◌++◌, ℕ, List, take}
use Rattle.asm_syntax.specs.code.Views.{spec_of}
use Rattle.asm_graph.specs.Arrows.{DrawnEdge, edges_in}
use Rattle.asm_graph.specs.code.DrawnArrows.{IsArrow}
use Rattle.asm_graph.specs.Graphs.{Pairs}
use Rattle.asm_graph.specs.code.EdgeMarks.{AreMarks}
use Rattle.asm_graph.proofs.arrows.Drawing.add_edges.Given as goal

-- the edges so far are drawn
abbrev pub invariant-loop-k : goal.invariant-loop-k
invariant-loop-k l =
    let m = l.self.resolved.now in
    let s = spec_of m.checked.now.spec in
    (path : List (ℕ × ℕ)) → AreMarks path l.self.marks.now → (before : List DrawnEdge) → Pairs (IsArrow s m.turns path) before l.fn.arrows.items
    → Pairs (IsArrow s m.turns path) (before ++ edges_in l.number l.node (take l.k l.edges)) l.arrows.items
