use Rattle.std.proofs.Common.{◌≡◌, ◌+◌, ◌%◌, ◌<◌, ◌≤◌, ℕ, []}
use Rattle.asm_pool.specs.code.Lanes.{past}
use Rattle.asm_pool.specs.code.Pool.{IsRun}
use Rattle.asm_pool.specs.code.WorkersAndSeats.{WorksOn}
use Rattle.asm_pool.proofs.work_lanes.work_all_lanes.Given as goal

abbrev pub invariant-loop-turn : goal.invariant-loop-turn
invariant-loop-turn g l = record {
  table : l.seat.table_id ≡ l.initial.seat.table_id;
  slots : l.seat.me.1 ≡ [];
  width : l.seat.me.0.lanes ≡ l.lanes.shape.lanes;
  parts : l.seat.me.0.parts ≡ 1;
  takes : g.J.Job.takes_hand l.job l.worker.hand;
  works : WorksOn (IsRun (g.J.Job.takes_hand l.job) (g.J.Job.runs l.job)) l.lanes.shape.count l.initial.seat.me.0 l.seat.me.0 l.initial.worker l.worker;
  emptied : (i : ℕ) → i < l.turn → past l.lanes.shape.lanes l.lanes.shape.count ((l.own + i) % l.lanes.shape.lanes) l.seat.me.0.drawn ≡ 1;
  ahead : (i : ℕ) → l.turn ≤ i → i < l.lanes.shape.lanes → past l.lanes.shape.lanes l.lanes.shape.count ((l.own + i) % l.lanes.shape.lanes) l.seat.me.0.drawn ≡ 0;
}
