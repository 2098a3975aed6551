use Rattle.std.proofs.Common.{◌≡◌, ◌∙◌, [], ◌++◌, All, IsSome, map, ap, sym, subst, refl}
use Rattle.std.proofs.lemmas.List.{append-nil, map_push, nil_from_length}
use Rattle.std.specs.Vec.Iter.{into_iter_items}
use Rattle.asm_pool.specs.code.WorkDone.{tasks_of, done_by, placed}
use Rattle.asm_pool.proofs.Slots.{all_some, stand_in, outs_count}
use Rattle.asm_pool.proofs.WorkGathered.{push-rest, worker-room, workers-room, workers-placed, room-init, places-all}
use Rattle.asm_pool.proofs.gather.gather.Goals as goal

pub loop-hand-init : goal.loop-hand-init
loop-hand-init g c =
    let all : into_iter_items c.into_iter-hand-iterator.result ≡ c.args.workers.items = c.into_iter-hand-iterator.ensures.into_iter_gives.0 in
    record {
      can = tt;
      ends = tt;
      room = room-init c.args.count _ _ _ c.requires.free all c.requires.once;
      places = ap (λ ws. placed c.args.out_slots.outs.items (done_by ws)) all;
      lists = ap (λ vs. map (λ v. v.items) vs ++ map (λ w. tasks_of w.done.items) (into_iter_items c.into_iter-hand-iterator.result)) c.in_ok-lists.ensures.items ∙ ap (λ ws. map (λ w. tasks_of w.done.items) ws) all;
      hands = ap (λ hs. hs ++ map (λ w. w.hand) (into_iter_items c.into_iter-hand-iterator.result)) c.in_ok-hands.ensures.items ∙ ap (λ ws. map (λ w. w.hand) ws) all;
    }

pub put_all-requires : goal.put_all-requires
put_all-requires g c = worker-room _ _ _ _ c.in-Some.ensures.steps.0 c.loop-hand.invariant.room

pub loop-hand-preserved : goal.loop-hand-preserved
loop-hand-preserved g c = let next = c.in-Some.ensures.steps.0 in record {
  can = tt;
  ends = tt;
  room = workers-room _ _ _ _ _ next c.in_ok-put_all.ensures.places c.loop-hand.invariant.room;
  places = workers-placed _ _ _ _ _ next c.in_ok-put_all.ensures.places ∙ c.loop-hand.invariant.places;
  lists = push-rest (λ w. tasks_of w.done.items) (map (λ v. v.items) c.loop-hand.lists.items) _ c.in_ok-put_all.field-0.items _ _ c.in-Some.field-0 next
      (ap (λ vs. map (λ v. v.items) vs) c.in_ok-push.ensures.items ∙ map_push (λ v. v.items) c.loop-hand.lists.items c.in_ok-put_all.field-0) c.in_ok-put_all.ensures.list ∙ c.loop-hand.invariant.lists;
  hands = push-rest (λ w. w.hand) c.loop-hand.hands.items _ _ _ _ c.in-Some.field-0 next c.in_ok-push-2.ensures.items refl ∙ c.loop-hand.invariant.hands;
}

pub into_outs-requires : goal.into_outs-requires
into_outs-requires g c =
    let none : into_iter_items c.loop-hand.hand-iterator ≡ [] = nil_from_length _ (sym c.loop-hand.hand-iterator.rest.ok.0 ∙ c.in-None.ensures.steps.0) in
    let whole = places-all c.args.count c.loop-hand.out_slots.outs.items c.args.out_slots.outs.items c.args.workers.items (into_iter_items c.loop-hand.hand-iterator) c.requires.free c.loop-hand.invariant.places none in
    subst (All IsSome) (sym whole) (all_some c.args.count (done_by c.args.workers.items) c.requires.once)

pub returns-clause-count : goal.returns-clause-count
returns-clause-count g c =
    let none : into_iter_items c.loop-hand.hand-iterator ≡ [] = nil_from_length _ (sym c.loop-hand.hand-iterator.rest.ok.0 ∙ c.in-None.ensures.steps.0) in
    let whole = places-all c.args.count c.loop-hand.out_slots.outs.items c.args.out_slots.outs.items c.args.workers.items (into_iter_items c.loop-hand.hand-iterator) c.requires.free c.loop-hand.invariant.places none in
    c.in_ok-outs.outs.ok.0 ∙ outs_count c.args.count _ (done_by c.args.workers.items) (c.in_ok-outs.ensures ∙ whole)

pub returns-clause-outs : goal.returns-clause-outs
returns-clause-outs g c =
    let none : into_iter_items c.loop-hand.hand-iterator ≡ [] = nil_from_length _ (sym c.loop-hand.hand-iterator.rest.ok.0 ∙ c.in-None.ensures.steps.0) in
    let whole = places-all c.args.count c.loop-hand.out_slots.outs.items c.args.out_slots.outs.items c.args.workers.items (into_iter_items c.loop-hand.hand-iterator) c.requires.free c.loop-hand.invariant.places none in
    stand_in c.args.count _ (done_by c.args.workers.items) c.requires.once (c.in_ok-outs.ensures ∙ whole)

pub returns-clause-lists : goal.returns-clause-lists
returns-clause-lists g c =
    let none : into_iter_items c.loop-hand.hand-iterator ≡ [] = nil_from_length _ (sym c.loop-hand.hand-iterator.rest.ok.0 ∙ c.in-None.ensures.steps.0) in
    sym (ap (λ ws. map (λ v. v.items) c.loop-hand.lists.items ++ map (λ w. tasks_of w.done.items) ws) none ∙ append-nil (map (λ v. v.items) c.loop-hand.lists.items)) ∙ c.loop-hand.invariant.lists

pub returns-clause-hands : goal.returns-clause-hands
returns-clause-hands g c =
    let none : into_iter_items c.loop-hand.hand-iterator ≡ [] = nil_from_length _ (sym c.loop-hand.hand-iterator.rest.ok.0 ∙ c.in-None.ensures.steps.0) in
    sym (ap (λ ws. c.loop-hand.hands.items ++ map (λ w. w.hand) ws) none ∙ append-nil c.loop-hand.hands.items) ∙ c.loop-hand.invariant.hands
