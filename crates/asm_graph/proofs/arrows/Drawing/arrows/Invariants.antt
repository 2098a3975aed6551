use Rattle.std.proofs.Common.{ℕ, List, take}
use Rattle.asm_syntax.specs.code.Views.{spec_of}
use Rattle.asm_graph.specs.code.DrawnArrows.{AreArrows}
use Rattle.asm_graph.specs.code.EdgeMarks.{AreMarks}
use Rattle.asm_graph.proofs.arrows.Drawing.arrows.Given as goal

-- the edges from the nodes so far are drawn
abbrev pub invariant-loop-number : goal.invariant-loop-number
invariant-loop-number l =
    let m = l.self.resolved.now in
    (path : List (ℕ × ℕ)) → AreMarks path l.self.marks.now → AreArrows (spec_of m.checked.now.spec) m.turns path (take l.number l.nodes) (take l.number l.steps) l.arrows.items
