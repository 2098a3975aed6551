use Rattle.asm_updates.proofs.IndexedRanges.{AreListed-none}
use Rattle.asm_updates.proofs.ranges.Ranges.clear.Goals as goal

pub invariant_of-self : goal.invariant_of-self
invariant_of-self c = AreListed-none _ _ _ c.clear.ensures.items
