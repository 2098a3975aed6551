use Rattle.std.proofs.Common.{◌≡◌, ◌<◌, ◌≤◌, ℕ, length}
use Rattle.std.specs.Prelude.{slice_get, Some}
use Rattle.asm_explore.specs.code.IndexedNodes.{StandsAt, slot_of}
use Rattle.asm_explore.specs.code.PackedNodes.{Node}
use Rattle.asm_explore.proofs.states.lookup.is_reached.Given as goal

-- a node that has the state stands in none of the slots so far
abbrev pub invariant-loop-steps : goal.invariant-loop-steps
invariant-loop-steps l = record {
  within : l.at < length l.tags;
  same : length l.slots ≡ length l.tags;
  is : l.at ≡ slot_of l.hash (length l.tags) l.steps;
  past : (number steps : ℕ) (n : Node) → slice_get l.nodes number ≡ Some n → n.state ≡ l.state → StandsAt l.slots l.tags l.hash number steps → l.steps ≤ steps;
}
