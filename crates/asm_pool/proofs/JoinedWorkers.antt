-- Free. Lists of workers, put together.
use Rattle.std.proofs.Common.{◌≡◌, ℕ, zero, suc, ◌≤◌, List, [], ◌∷◌, ◌++◌, length, map, take, drop, get_or, refl, sym, ap, ◌∙◌, subst, arith}
use Rattle.std.specs.List.{AllZip, All}
use Rattle.std.proofs.lemmas.List.{append-nil, append_assoc, map-append, map_push, take-append-drop}
use Rattle.std.proofs.lemmas.List.Elements.{All-nil, All-cons, All-head, All-tail, All-drop}
use Rattle.std.proofs.lemmas.List.Concat.{flat_map-append}
use Rattle.asm_pool.specs.declared.worker.TaskRun.{TaskRun}
use Rattle.asm_pool.specs.declared.worker.Worker.{Worker}
use Rattle.asm_pool.specs.code.WorkDone.{HasEachOnce, HasDone, AllHaveDone, tasks_of, tasks_by, done_by}

pub AllZip-append : {A B : Type 0} (R : A → B → Type 0) (xs us : List A) (ys vs : List B) → AllZip R xs ys → AllZip R us vs → AllZip R (xs ++ us) (ys ++ vs)
AllZip-append R [] us [] vs here there = there
AllZip-append R [] us (y ∷ ys) vs here there = absurd here
AllZip-append R (x ∷ xs) us [] vs here there = absurd here
AllZip-append R (x ∷ xs) us (y ∷ ys) vs here there = (here.0, AllZip-append R xs us ys vs here.1 there)

pub zip-length : {A B : Type 0} (R : A → B → Type 0) (xs : List A) (ys : List B) → AllZip R xs ys → length xs ≡ length ys
zip-length R [] [] all = refl
zip-length R [] (y ∷ ys) all = absurd all
zip-length R (x ∷ xs) [] all = absurd all
zip-length R (x ∷ xs) (y ∷ ys) all = ap suc (zip-length R xs ys all.1)

both-nil : {X : Type 0} (xs ys : List X) → xs ++ ys ≡ [] → (xs ≡ []) × (ys ≡ [])
both-nil [] ys none = (refl, none)
both-nil (x ∷ xs) ys none = let some : length (x ∷ (xs ++ ys)) ≡ 0 = ap length none in absurd (omega (arith, some))

module _ {Hand Out : Type 0} where
  pub tasks_by-append : (xs ys : List (Worker Hand Out)) → tasks_by (xs ++ ys) ≡ tasks_by xs ++ tasks_by ys
  tasks_by-append xs ys = ap tasks_of (flat_map-append (λ (w : Worker Hand Out). w.done.items) xs ys) ∙ map-append (λ (d : TaskRun Out). d.task) (done_by xs) (done_by ys)

  -- one worker more that has done nothing
  pub idle-more : (made more : List (Worker Hand Out)) (w : Worker Hand Out) → done_by made ≡ [] → w.done.items ≡ [] → more ≡ made ++ w ∷ [] → done_by more ≡ []
  idle-more made more w idle none pushed =
      ap done_by pushed ∙ (flat_map-append (λ (v : Worker Hand Out). v.done.items) made (w ∷ []) ∙ ((λ i. idle i ++ (none i ++ []))))

  pub hands-more : (made more : List (Worker Hand Out)) (w : Worker Hand Out) (rest next : List Hand) → rest ≡ w.hand ∷ next → more ≡ made ++ w ∷ [] → map (λ (v : Worker Hand Out). v.hand) more ++ next ≡ map (λ (v : Worker Hand Out). v.hand) made ++ rest
  hands-more made more w rest next is pushed =
      ap (λ (l : List Hand). l ++ next) (ap (map (λ (v : Worker Hand Out). v.hand)) pushed ∙ map_push (λ (v : Worker Hand Out). v.hand) made w)
      ∙ (append_assoc (map (λ (v : Worker Hand Out). v.hand) made) (w.hand ∷ []) next ∙ sym (ap (λ (r : List Hand). map (λ (v : Worker Hand Out). v.hand) made ++ r) is))

  -- the hands of workers that have done nothing
  pub idle-fit : (takes : Hand → Type 0) (hands : List Hand) (workers : List (Worker Hand Out)) → map (λ (w : Worker Hand Out). w.hand) workers ≡ hands → All takes hands → All (λ (w : Worker Hand Out). takes w.hand) workers
  idle-fit takes hands workers same fit = each workers (subst (All takes) (sym same) fit)
    where
      each : (ws : List (Worker Hand Out)) → All takes (map (λ (w : Worker Hand Out). w.hand) ws) → All (λ (w : Worker Hand Out). takes w.hand) ws
      each [] all = All-nil (λ (w : Worker Hand Out). takes w.hand)
      each (w ∷ ws) all = All-cons (λ (v : Worker Hand Out). takes v.hand) w ws (All-head takes w.hand (map (λ (v : Worker Hand Out). v.hand) ws) all)
          (each ws (All-tail takes w.hand (map (λ (v : Worker Hand Out). v.hand) ws) all))

  module _ (runs : ℕ → Hand → Out → Hand → Type 0) where
    pub both-hands : (hands front back : List Hand) (half : ℕ) (xs ys workers : List (Worker Hand Out)) → front ≡ take half hands → back ≡ drop half hands → workers ≡ xs ++ ys
        → AllHaveDone runs front xs → AllHaveDone runs back ys → AllHaveDone runs hands workers
    both-hands hands front back half xs ys workers is_front is_back is here there =
        let whole : front ++ back ≡ hands = (λ i. is_front i ++ is_back i) ∙ take-append-drop half hands in
        subst (λ (p : List Hand × List (Worker Hand Out)). AllHaveDone runs p.0 p.1) (λ i. (whole i, sym is i))
        (AllZip-append (λ (hand : Hand) (w : Worker Hand Out). HasDone runs hand w.done.items w.hand) front back xs ys here there)

    -- workers that have done nothing
    pub idle-done : (hands : List Hand) (workers : List (Worker Hand Out)) → map (λ (w : Worker Hand Out). w.hand) workers ≡ hands → done_by workers ≡ [] → AllHaveDone runs hands workers
    idle-done hands workers same idle = subst (λ (hs : List Hand). AllHaveDone runs hs workers) same (each workers idle)
      where
        each : (ws : List (Worker Hand Out)) → done_by ws ≡ [] → AllHaveDone runs (map (λ (w : Worker Hand Out). w.hand) ws) ws
        each [] none = tt
        each (w ∷ ws) none = let parts = both-nil w.done.items (done_by ws) none in (subst (λ (ds : List (TaskRun Out)). HasDone runs w.hand ds w.hand) (sym parts.0) refl, each ws parts.1)

    -- those that have done nothing bring no task more
    pub idle-once : (count : ℕ) (xs ys workers : List (Worker Hand Out)) → workers ≡ xs ++ ys → done_by ys ≡ [] → HasEachOnce count (tasks_by xs) → HasEachOnce count (tasks_by workers)
    idle-once count xs ys workers is idle once = subst (λ (l : List ℕ). HasEachOnce count l)
        (sym (ap tasks_by is ∙ (tasks_by-append xs ys ∙ (ap (λ (ds : List (TaskRun Out)). tasks_by xs ++ tasks_of ds) idle ∙ append-nil (tasks_by xs))))) once

  -- the workers after the busy ones
  all-idle : (workers : List (Worker Hand Out)) → done_by workers ≡ [] → All (λ (w : Worker Hand Out). w.done.items ≡ []) workers
  all-idle [] none = All-nil (λ (w : Worker Hand Out). w.done.items ≡ [])
  all-idle (w ∷ ws) none = let parts = both-nil w.done.items (done_by ws) none in All-cons (λ (v : Worker Hand Out). v.done.items ≡ []) w ws parts.0 (all-idle ws parts.1)

  behind : (most : ℕ) (xs ys : List (Worker Hand Out)) → length xs ≤ most → All (λ (w : Worker Hand Out). w.done.items ≡ []) ys → All (λ (w : Worker Hand Out). w.done.items ≡ []) (drop most (xs ++ ys))
  behind most [] ys few idle = All-drop (λ (w : Worker Hand Out). w.done.items ≡ []) most ys idle
  behind zero (x ∷ xs) ys few idle = absurd (omega arith)
  behind (suc most) (x ∷ xs) ys few idle = behind most xs ys (omega arith) idle

  pub idle-behind : (most : ℕ) (xs ys workers : List (Worker Hand Out)) → workers ≡ xs ++ ys → length xs ≤ most → done_by ys ≡ [] → All (λ (w : Worker Hand Out). w.done.items ≡ []) (drop most workers)
  idle-behind most xs ys workers is few idle = subst (λ (ws : List (Worker Hand Out)). All (λ (w : Worker Hand Out). w.done.items ≡ []) (drop most ws)) (sym is) (behind most xs ys few (all-idle ys idle))

-- the lists of workers that have done nothing
module _ {Hand Out V : Type 0} (items : V → List ℕ) (size : V → ℕ) (sized : (v : V) → size v ≡ length (items v)) where
  no-tasks : (lists : List V) (workers : List (Worker Hand Out)) → map items lists ≡ map (λ (w : Worker Hand Out). tasks_of w.done.items) workers → All (λ (w : Worker Hand Out). w.done.items ≡ []) workers
      → All (λ (v : V). size v ≡ 0) lists
  no-tasks [] workers same idle = All-nil (λ (v : V). size v ≡ 0)
  no-tasks (v ∷ vs) [] same idle = let long : length (map items (v ∷ vs)) ≡ 0 = ap length same in absurd (omega (arith, long))
  no-tasks (v ∷ vs) (w ∷ ws) same idle = All-cons (λ (u : V). size u ≡ 0) v vs
      (sized v ∙ ap length (ap (λ (l : List (List ℕ)). get_or l 0 []) same ∙ ap tasks_of (All-head (λ (u : Worker Hand Out). u.done.items ≡ []) w ws idle)))
      (no-tasks vs ws (ap (drop 1) same) (All-tail (λ (u : Worker Hand Out). u.done.items ≡ []) w ws idle))

  pub no-tasks-behind : (most : ℕ) (lists : List V) (workers : List (Worker Hand Out)) → map items lists ≡ map (λ (w : Worker Hand Out). tasks_of w.done.items) workers
      → All (λ (w : Worker Hand Out). w.done.items ≡ []) (drop most workers) → All (λ (v : V). size v ≡ 0) (drop most lists)
  no-tasks-behind zero lists workers same idle = no-tasks lists workers same idle
  no-tasks-behind (suc most) [] workers same idle = All-nil (λ (v : V). size v ≡ 0)
  no-tasks-behind (suc most) (v ∷ vs) [] same idle = let long : length (map items (v ∷ vs)) ≡ 0 = ap length same in absurd (omega (arith, long))
  no-tasks-behind (suc most) (v ∷ vs) (w ∷ ws) same idle = no-tasks-behind most vs ws (ap (drop 1) same) idle
