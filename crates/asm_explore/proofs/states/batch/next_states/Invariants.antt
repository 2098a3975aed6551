use Rattle.std.proofs.Common.{◌≡◌, ◌+◌, ◌<◌, map, take, drop, length, true}
use Rattle.asm_explore.specs.code.OutcomeLists.{Each}
use Rattle.asm_explore.specs.code.ReachedStates.{state_at}
use Rattle.asm_explore.proofs.states.batch.next_states.Given as goal

-- the states so far are those of the nodes so far
abbrev pub invariant-loop-number : goal.invariant-loop-number
invariant-loop-number g l = record {
  count : l.first + length l.states.items ≡ l.number;
  states : l.states.items ≡ map (λ n. n.state) (take (length l.states.items) (drop l.first l.nodes));
  inside : Each (λ n. g.M.Machine.within l.machine (state_at (g.M.Machine.shape l.machine) n) ≡ true) (take (length l.states.items) (drop l.first l.nodes));
  shallow : Each (λ n. n.depth < l.steps) (take (length l.states.items) (drop l.first l.nodes));
}
