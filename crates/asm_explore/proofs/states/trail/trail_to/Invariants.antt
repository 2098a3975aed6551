use Rattle.std.proofs.Common.{◌≡◌, ◌+◌, ◌<◌, ◌++◌, List, map, length}
use Rattle.std.specs.Prelude.{slice_get, Some}
use Rattle.asm_explore.specs.declared.outcomes.listed_outcome.Choice.{Choice}
use Rattle.asm_explore.specs.code.PackedNodes.{Node}
use Rattle.asm_explore.specs.code.ReachedStates.{LeadTo, state_at}
use Rattle.asm_explore.proofs.states.trail.trail_to.Given as goal

-- whatever leads to the node on the way leads, with the choices so far in front, to the last one
abbrev pub invariant-loop-step : goal.invariant-loop-step
invariant-loop-step g l = record {
  there : l.at < length l.nodes;
  leads : (back : List (List Choice)) (m n : Node) → slice_get l.nodes l.at ≡ Some m → slice_get l.nodes l.last ≡ Some n
      → LeadTo (g.M.Machine.specification l.machine) (g.M.Machine.turns l.machine) (g.M.Machine.within l.machine) (state_at (g.M.Machine.shape l.machine) m) back
      → LeadTo (g.M.Machine.specification l.machine) (g.M.Machine.turns l.machine) (g.M.Machine.within l.machine) (state_at (g.M.Machine.shape l.machine) n) (map (λ cs. cs.items) l.trail.items ++ back);
  count : length l.trail.items ≡ l._step;
  deep : (m n : Node) → slice_get l.nodes l.at ≡ Some m → slice_get l.nodes l.last ≡ Some n → l._step + m.depth ≡ n.depth;
}
