use Rattle.std.proofs.Common.{◌≡◌, [], ◌++◌, map}
use Rattle.std.specs.Vec.Iter.{into_iter_items}
use Rattle.asm_pool.specs.code.WorkDone.{done_by}
use Rattle.asm_pool.proofs.worker.idle_workers.Given as goal

abbrev pub invariant-loop-hand : goal.invariant-loop-hand
invariant-loop-hand g l = record {
  can : (goal.iterator-loop-hand g).can_next l.hand-iterator;
  ends : (goal.iterator-loop-hand g).is_finite l.hand-iterator;
  idle : done_by l.workers.items ≡ [];
  hands : map (λ w. w.hand) l.workers.items ++ into_iter_items l.hand-iterator ≡ l.fn.hands.items;
}
