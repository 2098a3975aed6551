-- Free. From what each worker has done to the runs of the lists.
use Rattle.std.proofs.Common.{◌≡◌, ◌≢◌, ℕ, suc, ◌<◌, ◌≤◌, List, [], ◌∷◌, ◌++◌, length, map, Some, sym, refl, ap, ◌∙◌, subst, ⊎_elim, arith}
use Rattle.std.specs.List.{slice_get, flat_map, concat, range_with_len}
use Rattle.std.specs.List.Sorted.{IsPermutation}
use Rattle.std.proofs.lemmas.Bool.{cases_lt, cases_eq, ne_eqb, lt-ltb}
use Rattle.std.proofs.lemmas.List.Elements.{All-head, All-tail}
use Rattle.std.proofs.lemmas.List.{length-map, map-append}
use Rattle.std.proofs.lemmas.List.Concat.{concat_is}
use Rattle.asm_pool.specs.declared.worker.TaskRun.{TaskRun}
use Rattle.asm_pool.specs.declared.worker.Worker.{Worker}
use Rattle.asm_pool.specs.code.WorkDone.{times, HasEachOnce, HasDone, AllHaveDone, StandIn, tasks_of, tasks_by, done_by}
use Rattle.asm_pool.specs.code.Pool.{IsRun, RunsTask, RunsList, RunsLists}
use Rattle.asm_pool.proofs.Counting.{times-append}
use Rattle.asm_pool.proofs.WorkGathered.{all_left, all_right}
use Rattle.asm_pool.proofs.Permutations.{each-once}

module _ {Hand Out : Type 0} (takes : Hand → Type 0) (runs : ℕ → Hand → Out → Hand → Type 0) (outs : List Out) where
  list-runs : (done : List (TaskRun Out)) (before after : Hand) → StandIn outs done → HasDone (IsRun takes runs) before done after → RunsList takes runs outs before (tasks_of done) after
  list-runs [] before after stand did = did
  list-runs (d ∷ ds) before after stand did = (
    did.0,
    (d.out, All-head (λ (e : TaskRun Out). slice_get outs e.task ≡ Some e.out) d ds stand, did.1),
    list-runs ds did.0 after (All-tail (λ (e : TaskRun Out). slice_get outs e.task ≡ Some e.out) d ds stand) did.2,
  )

  pub lists-run : (hands : List Hand) (workers : List (Worker Hand Out)) → StandIn outs (done_by workers) → AllHaveDone (IsRun takes runs) hands workers
      → RunsLists takes runs outs hands (map (λ (w : Worker Hand Out). tasks_of w.done.items) workers) (map (λ (w : Worker Hand Out). w.hand) workers)
  lists-run [] [] stand did = did
  lists-run [] (w ∷ workers) stand did = absurd did
  lists-run (hand ∷ hands) [] stand did = absurd did
  lists-run (hand ∷ hands) (w ∷ workers) stand did = (
    list-runs w.done.items hand w.hand (all_left (λ (e : TaskRun Out). slice_get outs e.task ≡ Some e.out) w.done.items (done_by workers) stand) did.0,
    lists-run hands workers (all_right (λ (e : TaskRun Out). slice_get outs e.task ≡ Some e.out) w.done.items (done_by workers) stand) did.1,
  )

  -- some run of the task returned the out in its place
  abbrev pub HasRun : ℕ → Type 0
  HasRun n = (before : Hand) × (after : Hand) × RunsTask takes runs outs before n after

  list-has-run : (n : ℕ) (tasks : List ℕ) (before after : Hand) → RunsList takes runs outs before tasks after → 0 < times n tasks → HasRun n
  list-has-run n [] before after did some = absurd (omega arith)
  list-has-run n (task ∷ tasks) before after did some = ⊎_elim (λ (same : task ≡ n). (before, did.0, subst (λ (k : ℕ). RunsTask takes runs outs before k did.0) same did.1))
      (λ (other : task ≢ n). let miss = ne_eqb task n other in list-has-run n tasks did.0 after did.2 (grind (arith, miss, some)))
      (cases_eq task n)

  pub has-run : (n : ℕ) (hands others : List Hand) (lists : List (List ℕ)) → RunsLists takes runs outs hands lists others → 0 < times n (flat_map (λ (l : List ℕ). l) lists) → HasRun n
  has-run n [] [] [] did some = absurd (omega arith)
  has-run n [] (_ ∷ _) [] did some = absurd did
  has-run n (_ ∷ _) [] [] did some = absurd did
  has-run n (_ ∷ _) (_ ∷ _) [] did some = absurd did
  has-run n [] [] (_ ∷ _) did some = absurd did
  has-run n [] (_ ∷ _) (_ ∷ _) did some = absurd did
  has-run n (_ ∷ _) [] (_ ∷ _) did some = absurd did
  has-run n (hand ∷ hands) (other ∷ others) (list ∷ lists) did some = ⊎_elim
      (λ (here : 0 < times n list). list-has-run n list hand other did.0 here)
      (λ (none : times n list ≤ 0). has-run n hands others lists did.1 (omega (arith, times-append n list (flat_map (λ (l : List ℕ). l) lists))))
      (cases_lt 0 (times n list))

  pub runs-count : (hands others : List Hand) (lists : List (List ℕ)) → RunsLists takes runs outs hands lists others → (length lists ≡ length hands) × (length others ≡ length hands)
  runs-count [] [] [] did = (refl, refl)
  runs-count [] (_ ∷ _) [] did = absurd did
  runs-count (_ ∷ _) [] [] did = absurd did
  runs-count (_ ∷ _) (_ ∷ _) [] did = absurd did
  runs-count [] [] (_ ∷ _) did = absurd did
  runs-count [] (_ ∷ _) (_ ∷ _) did = absurd did
  runs-count (_ ∷ _) [] (_ ∷ _) did = absurd did
  runs-count (hand ∷ hands) (other ∷ others) (list ∷ lists) did = let rest = runs-count hands others lists did.1 in (ap suc rest.0, ap suc rest.1)

pub tasks_by-lists : {Hand Out : Type 0} (workers : List (Worker Hand Out)) → tasks_by workers ≡ flat_map (λ (l : List ℕ). l) (map (λ (w : Worker Hand Out). tasks_of w.done.items) workers)
tasks_by-lists [] = refl
tasks_by-lists (w ∷ workers) = map-append (λ d. d.task) w.done.items (done_by workers) ∙ ap (λ l. tasks_of w.done.items ++ l) (tasks_by-lists workers)

-- what a pool returns, from what its workers have done
module _ {Hand Out V : Type 0} (takes : Hand → Type 0) (runs : ℕ → Hand → Out → Hand → Type 0) (items : V → List ℕ) (count : ℕ) (outs : List Out) (hands others : List Hand) (lists : List V) (workers : List (Worker Hand Out))
    (once : HasEachOnce count (tasks_by workers)) (same_lists : map items lists ≡ map (λ (w : Worker Hand Out). tasks_of w.done.items) workers) where
  all-tasks : flat_map (λ (l : List ℕ). l) (map items lists) ≡ tasks_by workers
  all-tasks = ap (flat_map (λ (l : List ℕ). l)) same_lists ∙ sym (tasks_by-lists workers)

  pub worked-once : IsPermutation (range_with_len 0 count) (concat (map items lists))
  worked-once = subst (IsPermutation (range_with_len 0 count)) (sym (concat_is (map items lists) ∙ all-tasks)) (each-once count (tasks_by workers) once)

  module _ (same_hands : others ≡ map (λ (w : Worker Hand Out). w.hand) workers) (stand : StandIn outs (done_by workers)) (did : AllHaveDone (IsRun takes runs) hands workers) where
    pub worked-lists : RunsLists takes runs outs hands (map items lists) others
    worked-lists = subst (λ (p : List (List ℕ) × List Hand). RunsLists takes runs outs hands p.0 p.1) (λ i. (sym same_lists i, sym same_hands i)) (lists-run takes runs outs hands workers stand did)

    pub worked-runs : (n : ℕ) → n < count → HasRun takes runs outs n
    worked-runs n low =
        let hit = lt-ltb n count low in let o = once n in
        has-run takes runs outs n hands others (map items lists) worked-lists (subst (λ (l : List ℕ). 0 < times n l) (sym all-tasks) (grind (arith, hit, o)))

    pub worked-count : (length others ≡ length hands) × (length lists ≡ length hands)
    worked-count = let counts = runs-count takes runs outs hands others (map items lists) worked-lists in (counts.1, sym (length-map lists items) ∙ counts.0)
