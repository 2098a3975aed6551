use Rattle.std.proofs.Common.{◌≡◌, ◌∙◌, ◌+◌, ◌%◌, ◌<◌, ℕ, cond, eqb, ap, refl, arith}
use Rattle.asm_pool.specs.code.Lanes.{past}
use Rattle.asm_pool.specs.code.Pool.{IsRun}
use Rattle.asm_pool.proofs.WorkerRuns.{works-none, works-then, emptied-more, ahead-more, worked-one}
use Rattle.asm_pool.proofs.work_lanes.work_all_lanes.Goals as goal

pub loop-turn-init : goal.loop-turn-init
loop-turn-init g c = let me = c.requires.seat.1 in record {
  table = refl;
  slots = ap (λ m. m.1) me;
  width = ap (λ m. m.0.lanes) me;
  parts = ap (λ m. m.0.parts) me;
  takes = c.requires.hand;
  works = works-none (IsRun (g.J.Job.takes_hand c.args.job.now) (g.J.Job.runs c.args.job.now)) c.args.lanes.now.shape.count c.args.seat.me.0 (record { hand = c.args.hand; done = c.new.result });
  emptied = λ i low. absurd (omega arith);
  ahead = λ i more inside. ap (λ m. past c.args.lanes.now.shape.lanes c.args.lanes.now.shape.count ((c.args.own + i) % c.args.lanes.now.shape.lanes) m.0.drawn) me;
}

pub loop-turn-preserved : goal.loop-turn-preserved
loop-turn-preserved g c =
    let shape = c.args.lanes.now.shape in
    let turn = c.loop-turn.turn in
    let own = c.args.own in
    let did = c.in_ok-work_lane.ensures in
    let p = λ (o : ℕ). past shape.lanes shape.count o c.loop-turn.seat.me.0.drawn in
    let q = λ (o : ℕ). past shape.lanes shape.count o c.work_lane.new.seat.me.0.drawn in
    let grows = λ (o : ℕ). did.ends o ∙ ap (λ (n : ℕ). p o + cond (eqb o ((own + turn) % n)) 1 0) c.count.ensures in
    let inside : turn < shape.lanes = omega (arith, c.loop-turn-test.true, c.count-turn-end.ensures) in
    record {
      table = did.seat.0 ∙ c.loop-turn.invariant.table;
      slots = did.seat.1;
      width = did.seat.2 ∙ c.loop-turn.invariant.width;
      parts = did.seat.3 ∙ c.loop-turn.invariant.parts;
      takes = did.hand;
      works = works-then (IsRun (g.J.Job.takes_hand c.args.job.now) (g.J.Job.runs c.args.job.now)) shape.count c.args.seat.me.0 c.loop-turn.seat.me.0 c.work_lane.new.seat.me.0 (record { hand = c.args.hand; done = c.new.result }) c.loop-turn.worker c.work_lane.new.worker
          c.loop-turn.invariant.works did.works;
      emptied = emptied-more shape.lanes own turn p q grows inside c.loop-turn.invariant.emptied c.loop-turn.invariant.ahead;
      ahead = ahead-more shape.lanes own turn p q grows c.loop-turn.invariant.ahead;
    }

pub returns-clause-worked : goal.returns-clause-worked
returns-clause-worked g c =
    let shape = c.args.lanes.now.shape in
    let inv = c.loop-turn.invariant in
    worked-one (IsRun (g.J.Job.takes_hand c.args.job.now) (g.J.Job.runs c.args.job.now)) shape.lanes shape.count c.args.own c.args.seat.me.0 c.loop-turn.seat.me.0 (record { hand = c.args.hand; done = c.new.result }) c.loop-turn.worker
    (ap (λ m. m.0.drawn) c.requires.seat.1) c.new.ensures.items inv.width inv.parts inv.works c.requires.own
    (λ i low. inv.emptied i (omega (arith, c.loop-turn-test.false, c.count-turn-end.ensures)))

pub work_lane-requires-clause-part : goal.work_lane-requires-clause-part
work_lane-requires-clause-part g c =
    let shape = c.args.lanes.now.shape in
    let turn = c.loop-turn.turn in
    let drawn = c.loop-turn.seat.me.0.drawn in
    let inside : turn < shape.lanes = omega (arith, c.loop-turn-test.true, c.count-turn-end.ensures) in
    let none : past shape.lanes shape.count ((c.args.own + turn) % c.count.result) drawn ≡ 0 =
    ap (λ (n : ℕ). past shape.lanes shape.count ((c.args.own + turn) % n) drawn) c.count.ensures ∙ c.loop-turn.invariant.ahead turn (omega arith) inside in
    omega (arith, none, c.loop-turn.invariant.parts)
