use Rattle.std.proofs.Common.{◌≡◌, ℕ, ◌-◌, []}
use Rattle.asm_pool.specs.code.Lanes.{past}
use Rattle.asm_pool.specs.code.Pool.{IsRun}
use Rattle.asm_pool.specs.code.WorkersAndSeats.{WorksOn}
use Rattle.asm_pool.proofs.WorkerRuns.{top}
use Rattle.asm_pool.proofs.work_lanes.work_lane.Given as goal

abbrev pub invariant-draws : goal.invariant-draws
invariant-draws g l = record {
  table : l.seat.table_id ≡ l.initial.seat.table_id;
  slots : l.seat.me.1 ≡ [];
  width : l.seat.me.0.lanes ≡ l.initial.seat.me.0.lanes;
  parts : l.seat.me.0.parts ≡ l.initial.seat.me.0.parts;
  takes : g.J.Job.takes_hand l.job l.worker.hand;
  works : WorksOn (IsRun (g.J.Job.takes_hand l.job) (g.J.Job.runs l.job)) l.lanes.shape.count l.initial.seat.me.0 l.seat.me.0 l.initial.worker l.worker;
  ends : (other : ℕ) → past l.lanes.shape.lanes l.lanes.shape.count other l.seat.me.0.drawn ≡ past l.lanes.shape.lanes l.lanes.shape.count other l.initial.seat.me.0.drawn;
}

abbrev pub decreases-draws : goal.decreases-draws
decreases-draws g l = l.lanes.shape.count - top l.lanes.shape.lanes l.lane l.seat.me.0.drawn
