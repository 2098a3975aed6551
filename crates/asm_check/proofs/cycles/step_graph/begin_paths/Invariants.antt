use Rattle.std.proofs.Common.{◌≡◌, ℕ, ◌<◌, ◌↔◌, length, IsTrue}
use Rattle.asm_check.specs.code.cycles.Graph.{next_of, step_lists}
use Rattle.asm_check.specs.code.cycles.MarkedNodes.{is_marked}
use Rattle.asm_check.specs.CallGraph.{BeginsPath}
use Rattle.asm_check.proofs.cycles.step_graph.begin_paths.Given as goal

abbrev pub invariant-loop : goal.invariant-loop
invariant-loop l = record {
  len : length l.ways.items ≡ length l.steps;
  ways : (n : ℕ) → n < length l.steps → IsTrue (is_marked l.ways.items n) ↔ BeginsPath (next_of (step_lists l.steps)) l.counter n;
}
