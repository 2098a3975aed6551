use Rattle.std.proofs.Common.{◌≡◌, ◌∙◌, [], ◌++◌, map, ap, sym}
use Rattle.std.specs.Vec.Iter.{into_iter_items}
use Rattle.std.proofs.lemmas.List.{append-nil, nil_from_length}
use Rattle.asm_pool.specs.code.WorkDone.{done_by}
use Rattle.asm_pool.proofs.JoinedWorkers.{idle-more, hands-more}
use Rattle.asm_pool.proofs.worker.idle_workers.Goals as goal

pub loop-hand-init : goal.loop-hand-init
loop-hand-init g c =
    let none = c.in_ok-workers.ensures.items in
    record {
      can = tt;
      ends = tt;
      idle = ap done_by none;
      hands = ap (λ ws. map (λ w. w.hand) ws ++ into_iter_items c.into_iter-hand-iterator.result) none ∙ c.into_iter-hand-iterator.ensures.into_iter_gives.0;
    }

pub loop-hand-preserved : goal.loop-hand-preserved
loop-hand-preserved g c = let pushed = c.in_ok-push.ensures.items in record {
  can = tt;
  ends = tt;
  idle = idle-more c.loop-hand.workers.items c.push.new.self.items _ c.loop-hand.invariant.idle c.new-done.ensures.items pushed;
  hands = hands-more c.loop-hand.workers.items c.push.new.self.items _ _ _ c.in-Some.ensures.steps.0 pushed ∙ c.loop-hand.invariant.hands;
}

pub returns-clause-hands : goal.returns-clause-hands
returns-clause-hands g c =
    let none : into_iter_items c.loop-hand.hand-iterator ≡ [] = nil_from_length _ (sym c.loop-hand.hand-iterator.rest.ok.0 ∙ c.in-None.ensures.steps.0) in
    sym (ap (λ hs. map (λ w. w.hand) c.loop-hand.workers.items ++ hs) none ∙ append-nil (map (λ w. w.hand) c.loop-hand.workers.items)) ∙ c.loop-hand.invariant.hands
