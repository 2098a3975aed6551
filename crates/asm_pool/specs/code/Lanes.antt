-- Bridge to the code. The rule of the lanes' table. Number k of lane l is written l + k * lanes. It
-- is that task if it lies below the count, else it is past the end of its lane.
use Rattle.std.specs.Prelude.{◌≡◌, ℕ, ◌+◌, ◌*◌, ◌/◌, ◌%◌, ◌<◌, ◌≤◌, ◌==◌, List, [], ◌∷◌, ◌++◌, length, nat_lt, nat_le, if◌then◌else◌, ◌&&◌, slice_index, filter}
use mathlib.Core.Option.{some}
use lib.ListN.{get_elem?}
use Rattle.atomic_table.specs.Table.{Step, Me}
use Rattle.asm_pool.specs.declared.lanes.SeatView.{SeatView}
use Rattle.asm_pool.specs.code.WorkDone.{times}

-- how many lanes there may be, and so how many workers
abbrev pub AreLanes : ℕ → Type 0
AreLanes lanes = (0 < lanes) × (lanes ≤ 32)

abbrev pub seat_view : ℕ → ℕ → List ℕ → SeatView
seat_view lanes parts drawn = record { lanes = lanes; parts = parts; drawn = drawn }

-- f of each view, added up
abbrev pub total : (SeatView → ℕ) → List SeatView → ℕ
total f [] = 0
total f (v ∷ views) = f v + total f views

-- how many of the drawn are past the end of the lane
abbrev pub past : ℕ → ℕ → ℕ → List ℕ → ℕ
past lanes count lane [] = 0
past lanes count lane (t ∷ drawn) = (if (t % lanes == lane) && nat_le count t then 1 else 0) + past lanes count lane drawn

pub record IsLaneState (lanes count : ℕ) (words : List ℕ) (views : List SeatView) : Type 0 where
  pub wide : length words ≡ lanes
  pub parts : total (λ v. v.parts) views ≡ lanes
  -- the numbers at a lane in all views are those below its word, each once
  pub once : (t : ℕ) → total (λ v. times t v.drawn) views ≡ (if nat_lt (t / lanes) (slice_index words (t % lanes)) then 1 else 0)
  -- a view has at most as many numbers past the end of a lane as its seat has parts
  pub ends : (seat : ℕ) (v : SeatView) → get_elem? views seat ≡ some v → (lane : ℕ) → past lanes count lane v.drawn ≤ v.parts
  -- a spent view has nothing
  pub idle : (seat : ℕ) (v : SeatView) → get_elem? views seat ≡ some v → v.parts ≡ 0 → v.drawn ≡ []
  -- no word runs further than that, so none wraps
  pub room : (lane : ℕ) → slice_index words lane ≤ count + total (λ v. past lanes count lane v.drawn) views

-- the number found at the lane is drawn, and the seat had drawn only lower ones there
abbrev pub IsDrawn : Step (Unit {0}) → Me (Unit {0}) SeatView → ℕ → Me (Unit {0}) SeatView → Type 0
IsDrawn step me found after =
    (after.0 ≡ seat_view me.0.lanes me.0.parts (me.0.drawn ++ (step.word + found * me.0.lanes) ∷ []))
    × (after.1 ≡ me.1)
    × ((t : ℕ) → 0 < times t me.0.drawn → t % me.0.lanes ≡ step.word → t / me.0.lanes < found)

-- the tasks among what was drawn
abbrev pub tasks_in : ℕ → List ℕ → List ℕ
tasks_in count drawn = filter (λ t. nat_lt t count) drawn

-- what one seat has drawn, if it is the one left: the numbers of each lane below some word, each
-- once
abbrev pub HasDrawnAll : ℕ → List ℕ → Type 0
HasDrawnAll lanes drawn = (words : List ℕ) × ((t : ℕ) → times t drawn ≡ (if nat_lt (t / lanes) (slice_index words (t % lanes)) then 1 else 0))
