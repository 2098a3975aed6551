use Rattle.std.proofs.Common.{◌≤◌, length, take}
use Rattle.asm_explore.specs.code.ReachedStates.{AreBegun, Extends, FollowsStep}
use Rattle.asm_explore.proofs.search.Search.follow_all.Given as goal

-- the first outcomes are followed
abbrev pub invariant-loop-k : goal.invariant-loop-k
invariant-loop-k g l = record {
  begun : AreBegun l.from l.initial.reached.nodes l.reached.nodes;
  room : length l.reached.nodes ≤ l.self.limit;
  extends : Extends (g.M.Machine.shape l.self.machine.now) (g.M.Machine.specification l.self.machine.now) (g.M.Machine.turns l.self.machine.now) (g.M.Machine.right l.self.machine.now) l.below l.initial.reached.nodes l.reached.nodes;
  follows : FollowsStep (g.M.Machine.shape l.self.machine.now) l.initial.reached.nodes l.reached.nodes l.from l.below (take l.k l.outcomes);
}
