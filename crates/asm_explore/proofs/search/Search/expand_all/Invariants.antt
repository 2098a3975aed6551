use Rattle.std.proofs.Common.{◌≤◌, ◌-◌, length}
use Rattle.asm_explore.specs.code.QuietStates.{IsRested}
use Rattle.asm_explore.specs.code.ReachedStates.{IsLooked, IsNear}
use Rattle.asm_explore.proofs.search.Search.expand_all.Given as goal

-- the first nodes are expanded
abbrev pub invariant-loop-expanded : goal.invariant-loop-expanded
invariant-loop-expanded g l = record {
  some : l.expanded ≤ length l.reached.nodes;
  room : length l.reached.nodes ≤ l.self.limit;
  looked : IsLooked (g.M.Machine.shape l.self.machine.now) (g.M.Machine.specification l.self.machine.now) (g.M.Machine.turns l.self.machine.now) (g.M.Machine.right l.self.machine.now) (g.M.Machine.within l.self.machine.now) l.self.steps l.expanded l.reached.nodes;
  near : IsNear l.reached.nodes l.expanded;
  rested : IsRested (g.M.Machine.shape l.self.machine.now) (g.M.Machine.specification l.self.machine.now) (g.M.Machine.turns l.self.machine.now) (g.M.Machine.rests l.self.machine.now) (g.M.Machine.within l.self.machine.now) l.self.steps l.expanded l.reached.nodes l.quiet.items;
}

abbrev pub decreases-loop-expanded : goal.decreases-loop-expanded
decreases-loop-expanded g l = l.self.limit - l.expanded
