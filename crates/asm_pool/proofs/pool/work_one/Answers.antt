use Rattle.std.proofs.Common.{◌≡◌, ℕ, ◌∙◌, [], length, subst, sym, arith}
use Rattle.asm_pool.specs.code.Lanes.{seat_view}
use Rattle.asm_pool.proofs.CutWorkers.{one-worked, popped-fits}
use Rattle.asm_pool.proofs.pool.work_one.Goals as goal

pub work_all_lanes-requires-clause-seat : goal.work_all_lanes-requires-clause-seat
work_all_lanes-requires-clause-seat g c =
    let one : length c.args.hands.items ≡ 1 = sym c.args.hands.ok.0 ∙ c.requires.one in
    (c.requires.ready.table, subst (λ (n : ℕ). c.args.seat.me ≡ (seat_view c.args.lanes.now.shape.lanes n [], [])) one c.requires.ready.blank)

pub work_all_lanes-requires-clause-own : goal.work_all_lanes-requires-clause-own
work_all_lanes-requires-clause-own g c = let room = c.requires.ready.room in let some = c.requires.ready.some in omega (arith, room, some)

pub work_all_lanes-requires-clause-tasks : goal.work_all_lanes-requires-clause-tasks
work_all_lanes-requires-clause-tasks g c = c.requires.ready.tasks

pub work_all_lanes-requires-clause-hand : goal.work_all_lanes-requires-clause-hand
work_all_lanes-requires-clause-hand g c = popped-fits (g.J.Job.takes_hand c.args.job.now) c.args.hands.items c.pop.new.self.items c.pop.result c.unwrap-hand.result c.pop.ensures.items c.unwrap-hand.ensures c.requires.ready.fit

pub returns : goal.returns
returns g c =
    let left = c.in_ok-worker.ensures in
    one-worked (g.J.Job.takes_hand c.args.job.now) (g.J.Job.runs c.args.job.now) c.args.lanes.now c.args.hands.items c.pop.new.self.items c.pop.result c.unwrap-hand.result c.in_ok-workers.workers.items c.push.new.self.items c.in_ok-worker.worker
    c.in_ok-worker.seat (sym c.args.hands.ok.0 ∙ c.requires.one) c.pop.ensures.items c.unwrap-hand.ensures c.in_ok-workers.ensures.items c.in_ok-push.ensures.items (left.seat.0 ∙ c.requires.ready.table) left.seat.1 left.fit left.worked
