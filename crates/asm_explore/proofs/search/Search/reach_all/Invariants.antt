use Rattle.std.proofs.Common.{◌≤◌, length, take}
use Rattle.asm_explore.specs.code.OutcomeLists.{Each}
use Rattle.asm_explore.specs.code.ReachedStates.{AreBegun, Extends, Known, state_at}
use Rattle.asm_explore.proofs.search.Search.reach_all.Given as goal

-- the first states are known
abbrev pub invariant-loop-k : goal.invariant-loop-k
invariant-loop-k g l = record {
  begun : AreBegun l.from l.initial.reached.nodes l.reached.nodes;
  room : length l.reached.nodes ≤ l.self.limit;
  extends : Extends (g.M.Machine.shape l.self.machine.now) (g.M.Machine.specification l.self.machine.now) (g.M.Machine.turns l.self.machine.now) (g.M.Machine.right l.self.machine.now) l.below l.initial.reached.nodes l.reached.nodes;
  known : Each (λ m. Known (g.M.Machine.shape l.self.machine.now) l.reached.nodes l.below (state_at (g.M.Machine.shape l.self.machine.now) m)) (take l.k l.ahead.states);
}
