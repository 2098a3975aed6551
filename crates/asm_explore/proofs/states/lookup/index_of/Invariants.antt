use Rattle.std.proofs.Common.{◌≡◌, length, take}
use Rattle.asm_explore.specs.code.IndexedNodes.{IsIndexed}
use Rattle.asm_explore.proofs.states.lookup.index_of.Given as goal

-- the nodes so far
abbrev pub invariant-loop-number : goal.invariant-loop-number
invariant-loop-number l = record {
  indexed : IsIndexed (take l.number l.nodes) l.slots.items l.tags.items;
  places : length l.tags.items ≡ l.places;
}
