use Rattle.asm_updates.proofs.IndexedRanges.{AreListed-none}
use Rattle.asm_updates.proofs.ranges.Ranges.new.Goals as goal

pub invariant_of-result : goal.invariant_of-result
invariant_of-result c = AreListed-none _ _ _ c.new.ensures.items
