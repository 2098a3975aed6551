-- Bridge to the code. What workers do with what their seats draw.
use Rattle.std.specs.Prelude.{◌≡◌, ℕ, ◌+◌, ◌<◌, ◌≤◌, List, [], ◌++◌, length, map}
use Rattle.std.specs.List.{All}
use Rattle.atomic_table.specs.declared.shared.Seat.{Seat}
use Rattle.asm_pool.specs.declared.worker.TaskRun.{TaskRun}
use Rattle.asm_pool.specs.declared.worker.Worker.{Worker}
use Rattle.asm_pool.specs.declared.lanes.Lanes.{Lanes}
use Rattle.asm_pool.specs.declared.lanes.SeatView.{SeatView}
use Rattle.asm_pool.specs.code.WorkDone.{tasks_of, tasks_by, done_by, HasDone, AllHaveDone, HasEachOnce}
use Rattle.asm_pool.specs.code.Lanes.{seat_view, tasks_in, past}
use Rattle.asm_pool.specs.code.Pool.{IsRun}

-- the seat drew more, and its worker ran just the tasks among that, in order
pub record WorksOn {Hand Out : Type 0} (runs : ℕ → Hand → Out → Hand → Type 0) (count : ℕ) (before after : SeatView) (old new : Worker Hand Out) : Type 0 where
  pub drawn : List ℕ
  pub done : List (TaskRun Out)
  pub draws : after.drawn ≡ before.drawn ++ drawn
  pub does : new.done.items ≡ old.done.items ++ done
  pub tasks : tasks_of done ≡ tasks_in count drawn
  pub hand : HasDone runs old.hand done new.hand

-- the seat, with a part for each worker, is past the end of each lane, and the workers ran just the
-- tasks among what it drew
pub record IsDoneByWorkers {Hand Out : Type 0} (runs : ℕ → Hand → Out → Hand → Type 0) (lanes count : ℕ) (hands : List Hand) (workers : List (Worker Hand Out)) (v : SeatView) : Type 0 where
  pub width : v.lanes ≡ lanes
  pub parts : v.parts ≡ length hands
  pub tasks : tasks_by workers ≡ tasks_in count v.drawn
  pub ends : (lane : ℕ) → lane < lanes → 0 < past lanes count lane v.drawn
  pub ran : AllHaveDone runs hands workers

-- there are hands, a lane for each of them from the first on, and a seat with a part for each,
-- which has drawn nothing
pub record CanWork {Hand : Type 0} (has_task : ℕ → Type 0) (takes : Hand → Type 0) (lanes : Lanes) (first : ℕ) (hands : List Hand) (seat : Seat (Unit {0}) SeatView) : Type 0 where
  pub some : 0 < length hands
  pub room : first + length hands ≤ lanes.shape.lanes
  pub table : seat.table_id ≡ lanes.table.shared.table_id
  pub blank : seat.me ≡ (seat_view lanes.shape.lanes (length hands) [], [])
  pub tasks : (n : ℕ) → n < lanes.shape.count → has_task n
  pub fit : All takes hands

-- what the workers with these hands leave, and the seat that has their draws
pub record HaveWorked {Hand Out : Type 0} (takes : Hand → Type 0) (runs : ℕ → Hand → Out → Hand → Type 0) (lanes : Lanes) (hands : List Hand) (workers : List (Worker Hand Out)) (seat : Seat (Unit {0}) SeatView) : Type 0 where
  pub table : seat.table_id ≡ lanes.table.shared.table_id
  pub empty : seat.me.1 ≡ []
  pub fit : All (λ w. takes w.hand) workers
  pub worked : IsDoneByWorkers (IsRun takes runs) lanes.shape.lanes lanes.shape.count hands workers seat.me.0

-- together the workers with these hands ran each task below the count once
pub record HaveRunAll {Hand Out : Type 0} (takes : Hand → Type 0) (runs : ℕ → Hand → Out → Hand → Type 0) (count : ℕ) (given : List Hand) (workers : List (Worker Hand Out)) : Type 0 where
  pub once : HasEachOnce count (tasks_by workers)
  pub fit : All (λ w. takes w.hand) workers
  pub hands : AllHaveDone (IsRun takes runs) given workers

-- after the workers come others, which have done nothing
pub record AddsIdle {Hand Out : Type 0} (hands : List Hand) (before after : List (Worker Hand Out)) : Type 0 where
  pub idle : List (Worker Hand Out)
  pub added : after ≡ before ++ idle
  pub none : done_by idle ≡ []
  pub hands_are : map (λ w. w.hand) idle ≡ hands

-- the workers of two halves in one list, and the seat that has the parts and the draws of both
pub record AreBoth {Hand Out : Type 0} (these : List (Worker Hand Out)) (seat : Seat (Unit {0}) SeatView) (those : List (Worker Hand Out)) (other : Seat (Unit {0}) SeatView) (all : List (Worker Hand Out)) (joined : Seat (Unit {0}) SeatView) : Type 0 where
  pub list : all ≡ these ++ those
  pub table : joined.table_id ≡ seat.table_id
  pub draws : joined.me ≡ (seat_view seat.me.0.lanes (seat.me.0.parts + other.me.0.parts) (seat.me.0.drawn ++ other.me.0.drawn), [])
