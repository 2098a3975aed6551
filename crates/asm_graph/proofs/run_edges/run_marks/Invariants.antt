use Rattle.std.proofs.Common.{◌≡◌, ◌-◌, ◌+◌, length}
use Rattle.asm_graph.specs.Paths.{run_edges, walk}
use Rattle.asm_graph.proofs.WalkLemmas.{Marked}
use Rattle.asm_graph.proofs.run_edges.run_marks.Given as goal

-- the edges of the steps so far are marked
abbrev pub invariant-loop-done : goal.invariant-loop-done
invariant-loop-done g l = record {
  marked : Marked (run_edges l.steps (g.P.Picks.script l.script) l.limit) (walk l.steps (g.P.Picks.script l.script) (l.limit - l.done) (l.done + 1) l.node) l.marks;
  count : length l.marks.rows.items ≡ length l.steps;
}
