use Rattle.std.proofs.Common.{◌≡◌, ◌∙◌, [], length, sym, arith}
use Rattle.asm_pool.specs.code.Lanes.{seat_view}
use Rattle.asm_pool.specs.code.Pool.{IsRun}
use Rattle.asm_pool.proofs.WorkerRuns.{all-worked}
use Rattle.asm_pool.proofs.pool.work_lanes.Goals as goal

pub work_halves-requires-clause-ready : goal.work_halves-requires-clause-ready
work_halves-requires-clause-ready g c κs within =
    let opened = c.in_ok-lanes.ensures in
    let len : c.len.result ≡ length c.args.hands.items = c.len.ensures ∙ c.args.hands.ok.0 in
    let wide = opened.shape.0 in
    let all = opened.shape.1 in
    let some = c.requires.some.0 in
    record {
      some = omega (arith, some, c.args.hands.ok.0);
      room = omega (arith, wide, len);
      table = opened.seat.0;
      blank = opened.seat.1 ∙ (λ i. (seat_view (sym wide i) (len i) [], []));
      tasks = λ n low. c.requires.tasks n (omega (arith, low, all));
      fit = c.requires.hands;
    }

pub close-requires-clause-parts : goal.close-requires-clause-parts
close-requires-clause-parts g c = c.in_ok-workers.ensures.worked.parts ∙ (sym c.args.hands.ok.0 ∙ (sym c.len.ensures ∙ sym c.in_ok-lanes.ensures.shape.0))

pub close-requires-clause-seat : goal.close-requires-clause-seat
close-requires-clause-seat g c = c.in_ok-workers.ensures.table

pub returns : goal.returns
returns g c =
    let table = c.in_ok-lanes.lanes in
    let worked = c.in_ok-workers.ensures in
    record {
      once = all-worked (IsRun (g.J.Job.takes_hand c.args.job.now) (g.J.Job.runs c.args.job.now)) table.shape.lanes table.shape.count c.args.count c.args.hands.items c.in_ok-workers.workers.items c.in_ok-workers.seat.me.0 table.some.0 c.in_ok-lanes.ensures.shape.1
          c.close.ensures worked.worked;
      fit = worked.fit;
      hands = worked.worked.ran;
    }
