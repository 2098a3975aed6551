-- Free. Outs that are put in their tasks' slots.
use Rattle.std.proofs.Common.{◌≡◌, ◌≢◌, ℕ, zero, suc, ◌+◌, ◌<◌, ◌≤◌, List, [], ◌∷◌, ◌++◌, length, get_or, set, replicate, map, Option, Some, None, IsSome, is_some, All, ◌⊎◌, inl, inr, ⊎_elim, sym, refl, ap, ◌∙◌, subst, arith}
use Rattle.std.proofs.lemmas.List.{length-set, append_assoc, map_push, length-map, length-replicate, get_or-set_other, get_or-set_same}
use Rattle.std.proofs.lemmas.List.Elements.{All-rest, All-head, All-nil, All-cons, All-weaker, All-from_get_or}
use Rattle.std.proofs.lemmas.Bool.{cases_lt, cases_eq, lt-ltb, le-ltb, eq-eqb, ne_eqb}
use Rattle.std.proofs.lemmas.Bool.Decides.{nat_tests}
use Rattle.std.specs.List.{slice_get}
use Rattle.asm_pool.specs.declared.worker.TaskRun.{TaskRun}
use Rattle.asm_pool.specs.code.WorkDone.{tasks_of, placed, times, HasEachOnce, StandIn}

module _ {Out : Type 0} where
  abbrev pub HasRoom : List (Option Out) → List (TaskRun Out) → Type 0
  HasRoom places done = All (λ (d : TaskRun Out). d.task < length places) done

  pub room-head : (places : List (Option Out)) (rest next : List (TaskRun Out)) (d : TaskRun Out) → rest ≡ d ∷ next → HasRoom places rest → d.task < length places
  room-head places rest next d is room = All-head (λ (e : TaskRun Out). e.task < length places) d next (subst (HasRoom places) is room)

  pub room-rest : (places after : List (Option Out)) (rest next : List (TaskRun Out)) (d : TaskRun Out) → rest ≡ d ∷ next → after ≡ set places d.task (Some d.out) → HasRoom places rest → HasRoom after next
  room-rest places after rest next d is put room =
      let len : length places ≡ length after = sym (ap length put ∙ length-set places d.task (Some d.out)) in
      subst (λ (n : ℕ). All (λ (e : TaskRun Out). e.task < n) next) len (All-rest (λ (e : TaskRun Out). e.task < length places) d next rest is room)

  pub placed-rest : (places after : List (Option Out)) (rest next : List (TaskRun Out)) (d : TaskRun Out) → rest ≡ d ∷ next → after ≡ set places d.task (Some d.out) → placed after next ≡ placed places rest
  placed-rest places after rest next d is put = ap (λ ps. placed ps next) put ∙ sym (ap (placed places) is)

  pub tasks-rest : (list more : List ℕ) (rest next : List (TaskRun Out)) (d : TaskRun Out) → rest ≡ d ∷ next → more ≡ list ++ d.task ∷ [] → more ++ tasks_of next ≡ list ++ tasks_of rest
  tasks-rest list more rest next d is pushed = ap (λ l. l ++ tasks_of next) pushed ∙ (append_assoc list (d.task ∷ []) (tasks_of next) ∙ sym (ap (λ r. list ++ tasks_of r) is))

  pub taken-rest : (outs more : List Out) (rest next : List (Option Out)) (place : Option Out) (out : Out) → rest ≡ place ∷ next → place ≡ Some out → more ≡ outs ++ out ∷ [] → map Some more ++ next ≡ map Some outs ++ rest
  taken-rest outs more rest next place out is some pushed =
      ap (λ (l : List Out). map Some l ++ next) pushed
      ∙ (ap (λ (l : List (Option Out)). l ++ next) (map_push Some outs out)
      ∙ (append_assoc (map Some outs) (Some out ∷ []) next
      ∙ sym (ap (λ (r : List (Option Out)). map Some outs ++ r) (is ∙ ap (λ (p : Option Out). p ∷ next) some))))

  pub placed-append : (places : List (Option Out)) (xs ys : List (TaskRun Out)) → placed places (xs ++ ys) ≡ placed (placed places xs) ys
  placed-append places [] ys = refl
  placed-append places (x ∷ xs) ys = placed-append (set places x.task (Some x.out)) xs ys

  pub length-placed : (places : List (Option Out)) (ds : List (TaskRun Out)) → length (placed places ds) ≡ length places
  length-placed places [] = refl
  length-placed places (d ∷ ds) = length-placed (set places d.task (Some d.out)) ds ∙ length-set places d.task (Some d.out)

  abbrev blank : Option Out
  blank = None

  blank-more : (n : ℕ) → replicate n blank ++ blank ∷ [] ≡ replicate (n + 1) blank
  blank-more zero = refl
  blank-more (suc n) = let both : suc n + 1 ≡ suc (n + 1) = omega arith in ap (λ (ps : List (Option Out)). blank ∷ ps) (blank-more n) ∙ sym (ap (λ (k : ℕ). replicate k blank) both)

  -- one free slot more
  pub free-more : (n : ℕ) (made more : List (Option Out)) → made ≡ replicate n None → more ≡ made ++ None ∷ [] → more ≡ replicate (n + 1) None
  free-more n made more free pushed = pushed ∙ (ap (λ (ps : List (Option Out)). ps ++ None ∷ []) free ∙ blank-more n)

  -- a slot whose task was not done stays as it was
  untouched : (ds : List (TaskRun Out)) (places : List (Option Out)) (n : ℕ) → times n (tasks_of ds) ≡ 0 → get_or (placed places ds) n None ≡ get_or places n None
  untouched [] places n none = refl
  untouched (d ∷ ds) places n none =
      let other : n ≢ d.task = λ same. let hit = eq-eqb d.task n (sym same) in grind (arith, hit, none) in
      untouched ds (set places d.task (Some d.out)) n (omega arith) ∙ get_or-set_other places d.task n (Some d.out) None other

  Stand : List (Option Out) → List (TaskRun Out) → Type 0
  Stand places done = All (λ (d : TaskRun Out). get_or places d.task None ≡ Some d.out) done

  stand : (ds : List (TaskRun Out)) (places : List (Option Out)) → HasRoom places ds → ((n : ℕ) → times n (tasks_of ds) ≤ 1) → All (λ (d : TaskRun Out). get_or (placed places ds) d.task None ≡ Some d.out) ds
  stand [] places room once = All-nil (λ (d : TaskRun Out). get_or places d.task None ≡ Some d.out)
  stand (d ∷ ds) places room once =
      let after : List (Option Out) = set places d.task (Some d.out) in
      let within : d.task < length places = All-head (λ (e : TaskRun Out). e.task < length places) d ds room in
      let hit = eq-eqb d.task d.task refl in
      let alone : times d.task (tasks_of ds) ≡ 0 = grind (arith, hit, once d.task) in
      All-cons (λ (e : TaskRun Out). get_or (placed after ds) e.task None ≡ Some e.out) d ds
      (untouched ds after d.task alone ∙ get_or-set_same places d.task (Some d.out) None within)
      (stand ds after (room-rest places after (d ∷ ds) ds d refl refl room) (λ n. let o = once n in omega arith))

  some_at : (ds : List (TaskRun Out)) (places : List (Option Out)) (n : ℕ) → n < length places → (0 < times n (tasks_of ds)) ⊎ IsSome (get_or places n None) → IsSome (get_or (placed places ds) n None)
  some_at [] places n within (inl none) = absurd (omega arith)
  some_at [] places n within (inr full) = full
  some_at (d ∷ ds) places n within here =
      let after : List (Option Out) = set places d.task (Some d.out) in
      some_at ds after n (subst (λ (k : ℕ). n < k) (sym (length-set places d.task (Some d.out))) within)
      (⊎_elim (λ (same : n ≡ d.task). inr (ap is_some (ap (λ (k : ℕ). get_or after k None) same ∙ get_or-set_same places d.task (Some d.out) None (subst (λ (k : ℕ). k < length places) same within))))
      (λ (other : n ≢ d.task). let miss = ne_eqb d.task n (λ e. other (sym e)) in
      ⊎_elim (λ (some : 0 < times n (tasks_of (d ∷ ds))). inl (grind (arith, miss, some))) (λ full. inr (ap is_some (get_or-set_other places d.task n (Some d.out) None other) ∙ full)) here)
      (cases_eq n d.task))

  pub all_some : (count : ℕ) (ds : List (TaskRun Out)) → HasEachOnce count (tasks_of ds) → All IsSome (placed (replicate count None) ds)
  all_some count ds once = All-from_get_or IsSome (placed (replicate count None) ds) None
      (λ n within. let len : length (placed (replicate count None) ds) ≡ count = length-placed (replicate count None) ds ∙ length-replicate count blank in
      let low : n < count = omega (arith, len, within) in let hit = lt-ltb n count low in
      some_at ds (replicate count None) n (omega (arith, length-replicate count blank)) (inl (grind (arith, hit, once n))))

  pub all_room : (count : ℕ) (ds : List (TaskRun Out)) → HasEachOnce count (tasks_of ds) → HasRoom (replicate count None) ds
  all_room count ds once = subst (λ (k : ℕ). All (λ (d : TaskRun Out). d.task < k) ds) (sym (length-replicate count blank)) (below ds (λ n high. let miss = le-ltb n count high in grind (arith, miss, once n)))
    where
      below : (es : List (TaskRun Out)) → ((n : ℕ) → count ≤ n → times n (tasks_of es) ≡ 0) → All (λ (d : TaskRun Out). d.task < count) es
      below [] none = All-nil (λ (d : TaskRun Out). d.task < count)
      below (e ∷ es) none = All-cons (λ (d : TaskRun Out). d.task < count) e es
          (⊎_elim (λ (low : e.task < count). low) (λ (high : count ≤ e.task). let hit = eq-eqb e.task e.task refl in let zero_times = none e.task high in absurd (grind (arith, hit, zero_times))) (cases_lt e.task count))
          (below es (λ n high. let zero_times = none n high in omega arith))

  get_or-map_some : (outs : List Out) (n : ℕ) → get_or (map Some outs) n None ≡ slice_get outs n
  get_or-map_some [] n = refl
  get_or-map_some (x ∷ xs) zero = refl
  get_or-map_some (x ∷ xs) (suc n) = get_or-map_some xs n

  pub stand_in : (count : ℕ) (outs : List Out) (ds : List (TaskRun Out)) → HasEachOnce count (tasks_of ds) → map Some outs ≡ placed (replicate count None) ds → StandIn outs ds
  stand_in count outs ds once same = All-weaker (λ (d : TaskRun Out). get_or (placed (replicate count None) ds) d.task None ≡ Some d.out) (λ (d : TaskRun Out). slice_get outs d.task ≡ Some d.out)
      (λ d is. sym (get_or-map_some outs d.task) ∙ (ap (λ (ps : List (Option Out)). get_or ps d.task None) same ∙ is)) ds
      (stand ds (replicate count None) (all_room count ds once) (λ n. let o = once n in grind (arith, nat_tests, o)))

  pub outs_count : (count : ℕ) (outs : List Out) (ds : List (TaskRun Out)) → map Some outs ≡ placed (replicate count None) ds → length outs ≡ count
  outs_count count outs ds same = sym (length-map outs Some) ∙ (ap length same ∙ (length-placed (replicate count None) ds ∙ length-replicate count blank))
