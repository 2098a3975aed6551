use Rattle.std.proofs.Common.{◌≡◌, ◌<◌, length}
use Rattle.asm_explore.specs.code.IndexedNodes.{IsTakenUpTo, slot_of}
use Rattle.asm_explore.proofs.states.lookup.free_slot.Given as goal

-- none of the slots so far is free
abbrev pub invariant-loop-taken : goal.invariant-loop-taken
invariant-loop-taken l = record {
  within : l.at < length l.tags;
  is : l.at ≡ slot_of l.hash (length l.tags) l.taken;
  taken : IsTakenUpTo l.tags l.hash l.taken;
}
