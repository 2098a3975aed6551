use Rattle.std.proofs.Common.{◌≡◌, ◌<◌, ◌∙◌, [], ◌++◌, All, length, ap, subst, sym, arith}
use Rattle.std.specs.Vec.Iter.{into_iter_items}
use Rattle.std.proofs.lemmas.List.{append-nil, nil_from_length}
use Rattle.asm_pool.specs.code.WorkDone.{tasks_of, placed}
use Rattle.asm_pool.proofs.Slots.{room-head, room-rest, placed-rest, tasks-rest}
use Rattle.asm_pool.proofs.gather.Slots.put_all.Goals as goal

pub put-requires : goal.put-requires
put-requires g c =
    let room : c.in-Some.field-0.task < length c.loop-task.self.outs.items = room-head _ _ _ _ c.in-Some.ensures.steps.0 c.loop-task.invariant.room in
    omega (arith, c.loop-task.self.outs.ok.0)

pub loop-task-preserved : goal.loop-task-preserved
loop-task-preserved g c = let next = c.in-Some.ensures.steps.0 in record {
  can = tt;
  ends = tt;
  room = room-rest _ _ _ _ _ next c.put.ensures c.loop-task.invariant.room;
  places = placed-rest _ _ _ _ _ next c.put.ensures ∙ c.loop-task.invariant.places;
  list = tasks-rest _ _ _ _ _ next (c.in_ok-push.ensures.items) ∙ c.loop-task.invariant.list;
}

pub loop-task-init : goal.loop-task-init
loop-task-init g c =
    let all : into_iter_items c.into_iter-task-iterator.result ≡ c.args.done.items = c.into_iter-task-iterator.ensures.into_iter_gives.0 in
    record {
      can = tt;
      ends = tt;
      room = subst (λ ds. All (λ d. d.task < length c.args.self.now.outs.items) ds) (sym all) c.requires;
      places = ap (placed c.args.self.now.outs.items) all;
      list = ap (λ l. l ++ tasks_of (into_iter_items c.into_iter-task-iterator.result)) c.in_ok-list.ensures.items ∙ ap tasks_of all;
    }

pub returns-clause-places : goal.returns-clause-places
returns-clause-places g c =
    let none : into_iter_items c.loop-task.task-iterator ≡ [] = nil_from_length _ (sym c.loop-task.task-iterator.rest.ok.0 ∙ c.in-None.ensures.steps.0) in
    sym (ap (placed c.loop-task.self.outs.items) none) ∙ c.loop-task.invariant.places

pub returns-clause-list : goal.returns-clause-list
returns-clause-list g c =
    let none : into_iter_items c.loop-task.task-iterator ≡ [] = nil_from_length _ (sym c.loop-task.task-iterator.rest.ok.0 ∙ c.in-None.ensures.steps.0) in
    sym (ap (λ ds. c.loop-task.list.items ++ tasks_of ds) none ∙ append-nil c.loop-task.list.items) ∙ c.loop-task.invariant.list
