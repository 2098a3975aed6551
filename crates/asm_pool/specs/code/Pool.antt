-- Bridge to the code. What a pool's result says of the runs of a job's tasks.
--     IsRun         a run of a task, between hands that the job takes
--     RunsTask      one whose result is the out in the task's place
--     RunsList      such runs of the tasks of a list, one after another with one hand
--     RunsLists     each worker's runs
--     Works         what a call returns that runs each task below a count once
use Rattle.std.specs.Prelude.{◌≡◌, ◌<◌, ℕ, List, [], ◌∷◌, All, Some, map, vec_len, ⊤}
use Rattle.std.specs.List.{FoldsTo, concat, range_with_len, slice_get}
use Rattle.std.specs.List.Sorted.{IsPermutation}
use Rattle.asm_pool.specs.declared.pool_result.PoolResult.{PoolResult}

module _ {Hand Out : Type 0} (takes : Hand → Type 0) (runs : ℕ → Hand → Out → Hand → Type 0) where
  -- a run of task n, with the hand before, its result, and the hand after
  abbrev pub IsRun : ℕ → Hand → Out → Hand → Type 0
  IsRun n before out after = takes before × takes after × runs n before out after

  module _ (outs : List Out) where
    -- a run of task n, with just the out in its place as the result
    abbrev pub RunsTask : Hand → ℕ → Hand → Type 0
    RunsTask before n after = (out : Out) × (slice_get outs n ≡ Some out) × IsRun n before out after

    -- one run of each task of the list, in that order
    abbrev pub RunsList : Hand → List ℕ → Hand → Type 0
    RunsList = FoldsTo RunsTask

    -- each worker's hand before, its list, and its hand after
    abbrev pub RunsLists : List Hand → List (List ℕ) → List Hand → Type 0
    RunsLists [] [] [] = ⊤
    RunsLists (before ∷ hands) (tasks ∷ lists) (after ∷ others) = RunsList before tasks after × RunsLists hands lists others
    RunsLists _ _ _ = ⊥

  -- what a call returns that runs each task below the count once, with these hands
  pub record Works (lanes count : ℕ) (given : List Hand) (w : PoolResult Hand Out) : Type 0 where
    pub len : (vec_len w.outs ≡ count) × (vec_len w.hands ≡ lanes) × (vec_len w.lists ≡ lanes)
    pub once : IsPermutation (range_with_len 0 count) (concat (map (λ list. list.items) w.lists.items))
    pub outs : (n : ℕ) → n < count → (before : Hand) × (after : Hand) × RunsTask w.outs.items before n after
    pub fit : All takes w.hands.items
    pub hands : RunsLists w.outs.items given (map (λ list. list.items) w.lists.items) w.hands.items
