use Rattle.std.proofs.Common.{◌≡◌, ◌++◌, map}
use Rattle.std.specs.Vec.Iter.{into_iter_items}
use Rattle.asm_pool.specs.code.WorkDone.{tasks_of, done_by, placed}
use Rattle.asm_pool.proofs.Slots.{HasRoom}
use Rattle.asm_pool.proofs.gather.gather.Given as goal

abbrev pub invariant-loop-hand : goal.invariant-loop-hand
invariant-loop-hand g l = record {
  can : (goal.iterator-loop-hand g).can_next l.hand-iterator;
  ends : (goal.iterator-loop-hand g).is_finite l.hand-iterator;
  room : HasRoom l.out_slots.outs.items (done_by (into_iter_items l.hand-iterator));
  places : placed l.out_slots.outs.items (done_by (into_iter_items l.hand-iterator)) ≡ placed l.initial.out_slots.outs.items (done_by l.fn.workers.items);
  lists : map (λ v. v.items) l.lists.items ++ map (λ w. tasks_of w.done.items) (into_iter_items l.hand-iterator) ≡ map (λ w. tasks_of w.done.items) l.fn.workers.items;
  hands : l.hands.items ++ map (λ w. w.hand) (into_iter_items l.hand-iterator) ≡ map (λ w. w.hand) l.fn.workers.items;
}
