use Rattle.std.proofs.Common.{◌≡◌, ◌++◌, All, IsSome, Some, map}
use Rattle.std.specs.Vec.Iter.{into_iter_items}
use Rattle.asm_pool.proofs.gather.Slots.into_outs.Given as goal

abbrev pub invariant-loop-slot : goal.invariant-loop-slot
invariant-loop-slot g l = record {
  can : (goal.iterator-loop-slot g).can_next l.slot-iterator;
  ends : (goal.iterator-loop-slot g).is_finite l.slot-iterator;
  some : All IsSome (into_iter_items l.slot-iterator);
  taken : map Some l.outs.items ++ into_iter_items l.slot-iterator ≡ l.fn.self.outs.items;
}
