use Rattle.std.proofs.Common.{◌≡◌, ◌∙◌, ◌+◌, ◌*◌, ◌<◌, ◌≤◌, ◌++◌, ◌∷◌, [], ℕ, cond, eqb, ap, sym, refl, arith, rules}
use Rattle.std.proofs.Math.Nat.{mul-le-mul_left}
use Rattle.asm_pool.specs.code.Pool.{IsRun}
use Rattle.asm_pool.proofs.WorkerRuns.{works-none, works-then, works-task, past-task, past-end, nearer}
use Rattle.asm_pool.proofs.work_lanes.work_lane.Goals as goal

pub draws-init : goal.draws-init
draws-init g c = record {
  table = refl;
  slots = c.requires.seat.1;
  width = refl;
  parts = refl;
  takes = c.requires.hand;
  works = works-none (IsRun (g.J.Job.takes_hand c.args.job.now) (g.J.Job.runs c.args.job.now)) c.args.lanes.now.shape.count c.args.seat.now.me.0 c.args.worker.now;
  ends = λ other. refl;
}

pub returns-in_default-clause-ends : goal.returns-in_default-clause-ends
returns-in_default-clause-ends g c other =
    let shape = c.args.lanes.now.shape in
    past-end shape.lanes shape.count c.args.lane c.draw-number.result other c.draws.seat.me.0.drawn c.draw-number.new.seat.me.0.drawn c.requires.lane c.in_default.ensures (ap (λ v. v.drawn) c.draw-number.ensures.drawn)
    ∙ ap (λ (n : ℕ). n + cond (eqb other c.args.lane) 1 0) (c.draws.invariant.ends other)

pub draws-smaller : goal.draws-smaller
draws-smaller g c =
    let shape = c.args.lanes.now.shape in
    let number = c.draw-number.result in
    let some : 0 < shape.lanes = c.args.lanes.now.some.0 in
    let grow : number * 1 ≤ number * shape.lanes = mul-le-mul_left number some in
    let at = c.in-Some.ensures.1 in
    nearer shape.lanes shape.count c.args.lane number c.draws.seat.me.0.drawn c.draw-number.new.seat.me.0.drawn c.requires.lane (omega (arith, at, c.in-Some.ensures.0)) (omega (arith, grow)) (ap (λ v. v.drawn) c.draw-number.ensures.drawn) c.draw-number.ensures.next

pub draws-preserved : goal.draws-preserved
draws-preserved g c =
    let shape = c.args.lanes.now.shape in
    let runs = IsRun (g.J.Job.takes_hand c.args.job.now) (g.J.Job.runs c.args.job.now) in
    let is = c.draw-number.ensures.drawn in
    let number = c.draw-number.result in
    let drawn : c.draw-number.new.seat.me.0.drawn ≡ c.draws.seat.me.0.drawn ++ c.in-Some.task ∷ [] = ap (λ v. v.drawn) is ∙ ap (λ (t : ℕ). c.draws.seat.me.0.drawn ++ t ∷ []) (sym c.in-Some.ensures.1) in
    let pushed : c.push_reserved.new.self.items ≡ c.draws.worker.done.items ++ c.run_one-done.result ∷ [] = search rules in
    record {
      table = c.draw-number.ensures.seat.0 ∙ c.draws.invariant.table;
      slots = c.draw-number.ensures.seat.1;
      width = ap (λ v. v.lanes) is ∙ c.draws.invariant.width;
      parts = ap (λ v. v.parts) is ∙ c.draws.invariant.parts;
      takes = c.run_one-done.ensures.hand;
      works = works-then runs shape.count c.args.seat.now.me.0 c.draws.seat.me.0 c.draw-number.new.seat.me.0 c.args.worker.now c.draws.worker (record { hand = c.run_one-done.new.hand; done = c.push_reserved.new.self })
          c.draws.invariant.works
          (works-task runs shape.count c.draws.seat.me.0 c.draw-number.new.seat.me.0 c.draws.worker (record { hand = c.run_one-done.new.hand; done = c.push_reserved.new.self }) c.in-Some.task c.run_one-done.result c.in-Some.ensures.0
          c.run_one-done.ensures.task drawn pushed (c.draws.invariant.takes, c.run_one-done.ensures.hand, c.run_one-done.ensures.run));
      ends = λ other. past-task shape.lanes shape.count other c.in-Some.task c.draws.seat.me.0.drawn c.draw-number.new.seat.me.0.drawn c.in-Some.ensures.0 drawn ∙ c.draws.invariant.ends other;
    }
