use Rattle.std.proofs.Common.{◌≡◌, ℕ, ◌+◌, ◌≤◌, length}
use Rattle.std.specs.Prelude.{slice_get, Some}
use Rattle.asm_explore.specs.code.PackedNodes.{Node}
use Rattle.asm_explore.specs.code.QuietStates.{IsRested}
use Rattle.asm_explore.specs.code.ReachedStates.{IsLooked, IsNear}
use Rattle.asm_explore.proofs.search.Search.expand_batch.Given as goal

-- the first of these nodes are expanded, and all are where they were
abbrev pub invariant-loop-k : goal.invariant-loop-k
invariant-loop-k g l = record {
  room : length l.reached.nodes ≤ l.self.limit;
  more : length l.initial.reached.nodes ≤ length l.reached.nodes;
  same : (i : ℕ) (n : Node) → slice_get l.initial.reached.nodes i ≡ Some n → slice_get l.reached.nodes i ≡ Some n;
  looked : IsLooked (g.M.Machine.shape l.self.machine.now) (g.M.Machine.specification l.self.machine.now) (g.M.Machine.turns l.self.machine.now) (g.M.Machine.right l.self.machine.now) (g.M.Machine.within l.self.machine.now) l.self.steps (l.first + l.k) l.reached.nodes;
  near : IsNear l.reached.nodes (l.first + l.k);
  rested : IsRested (g.M.Machine.shape l.self.machine.now) (g.M.Machine.specification l.self.machine.now) (g.M.Machine.turns l.self.machine.now) (g.M.Machine.rests l.self.machine.now) (g.M.Machine.within l.self.machine.now) l.self.steps (l.first + l.k) l.reached.nodes l.quiet.items;
}
