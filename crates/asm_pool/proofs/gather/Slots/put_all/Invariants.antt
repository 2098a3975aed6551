use Rattle.std.proofs.Common.{◌≡◌, ◌<◌, ◌++◌, All, length}
use Rattle.std.specs.Vec.Iter.{into_iter_items}
use Rattle.asm_pool.specs.code.WorkDone.{tasks_of, placed}
use Rattle.asm_pool.proofs.gather.Slots.put_all.Given as goal

abbrev pub invariant-loop-task : goal.invariant-loop-task
invariant-loop-task g l = record {
  can : (goal.iterator-loop-task g).can_next l.task-iterator;
  ends : (goal.iterator-loop-task g).is_finite l.task-iterator;
  room : All (λ d. d.task < length l.self.outs.items) (into_iter_items l.task-iterator);
  places : placed l.self.outs.items (into_iter_items l.task-iterator) ≡ placed l.initial.self.outs.items l.fn.done.items;
  list : l.list.items ++ tasks_of (into_iter_items l.task-iterator) ≡ tasks_of l.fn.done.items;
}
