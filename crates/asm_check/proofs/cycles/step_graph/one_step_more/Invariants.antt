use Rattle.std.proofs.Common.{◌≡◌, ℕ, ◌<◌, ◌↔◌, length, IsTrue}
use Rattle.asm_check.specs.code.cycles.Graph.{next_of, step_lists}
use Rattle.asm_check.specs.code.cycles.MarkedNodes.{is_marked, HasMarkedStep}
use Rattle.asm_check.proofs.cycles.step_graph.one_step_more.Given as goal

abbrev pub invariant-loop-onward : goal.invariant-loop-onward
invariant-loop-onward l = record {
  len : length l.longer.items ≡ l.onward-index;
  ways : (n : ℕ) → n < l.onward-index → IsTrue (is_marked l.longer.items n) ↔ HasMarkedStep (next_of (step_lists l.steps) n) l.ways;
}
