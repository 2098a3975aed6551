use Rattle.std.proofs.Common.{◌≡◌, ℕ, ◌<◌, []}
use Rattle.asm_check.specs.code.cycles.Graph.{step_lists}
use Rattle.asm_check.specs.code.cycles.CycleSearch.{IsSearchOf, IsMet}
use Rattle.asm_check.proofs.cycles.step_graph.reach_cycles.Given as goal

abbrev pub invariant-loop-node : goal.invariant-loop-node
invariant-loop-node l = record {
  search : IsSearchOf (step_lists l.steps) l.search;
  path : l.search.path.items ≡ [];
  met : (n : ℕ) → n < l.node → IsMet l.search n;
}
