-- Bridge to the code. What workers have done.
--     HasEachOnce     a list has the numbers below a count, each once, and no other
--     HasDone         what a worker has done leads from its first hand to its last
--     StandIn         each out is in its task's place
use Rattle.std.specs.Prelude.{◌≡◌, ℕ, ◌+◌, ◌==◌, List, [], ◌∷◌, map, nat_lt, if◌then◌else◌, Some, Option, slice_set}
use Rattle.std.specs.List.{FoldsTo, AllZip, All, flat_map, slice_get}
use Rattle.asm_pool.specs.declared.worker.TaskRun.{TaskRun}
use Rattle.asm_pool.specs.declared.worker.Worker.{Worker}

-- how often a number is in a list
abbrev pub times : ℕ → List ℕ → ℕ
times n [] = 0
times n (task ∷ tasks) = (if task == n then 1 else 0) + times n tasks

-- the numbers below the count, each once, and no other
abbrev pub HasEachOnce : ℕ → List ℕ → Type 0
HasEachOnce count tasks = (n : ℕ) → times n tasks ≡ (if nat_lt n count then 1 else 0)

module _ {Out : Type 0} where
  abbrev pub tasks_of : List (TaskRun Out) → List ℕ
  tasks_of done = map (λ (d : TaskRun Out). d.task) done

  -- the outs, each put in its task's place
  abbrev pub placed : List (Option Out) → List (TaskRun Out) → List (Option Out)
  placed places [] = places
  placed places (d ∷ ds) = placed (slice_set places d.task (Some d.out)) ds

  -- each out is in its task's place
  abbrev pub StandIn : List Out → List (TaskRun Out) → Type 0
  StandIn outs done = All (λ d. slice_get outs d.task ≡ Some d.out) done

module _ {Hand Out : Type 0} where
  -- the hand after one run of each task, in order, each with its out as the result
  abbrev pub HasDone : (ℕ → Hand → Out → Hand → Type 0) → Hand → List (TaskRun Out) → Hand → Type 0
  HasDone runs = FoldsTo (λ before d after. runs d.task before d.out after)

  -- what all workers have done
  abbrev pub done_by : List (Worker Hand Out) → List (TaskRun Out)
  done_by workers = flat_map (λ (w : Worker Hand Out). w.done.items) workers

  abbrev pub tasks_by : List (Worker Hand Out) → List ℕ
  tasks_by workers = tasks_of (done_by workers)

  -- each worker began with the hand at its place
  abbrev pub AllHaveDone : (ℕ → Hand → Out → Hand → Type 0) → List Hand → List (Worker Hand Out) → Type 0
  AllHaveDone runs = AllZip (λ hand w. HasDone runs hand w.done.items w.hand)
