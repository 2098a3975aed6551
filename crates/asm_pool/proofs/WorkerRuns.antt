-- Free. A worker's draws and runs, one after another.
use Rattle.std.proofs.Common.{◌≡◌, ◌≢◌, ℕ, ◌+◌, ◌-◌, ◌*◌, ◌/◌, ◌%◌, ◌<◌, ◌≤◌, max, eqb, ltb, cond, List, [], ◌∷◌, ◌++◌, get_or, take, drop, sym, refl, ap, ◌∙◌, subst, ⊎_elim, arith}
use Rattle.std.proofs.lemmas.Bool.{cases_lt, cases_eq, eq-eqb, ne_eqb, lt-ltb, le-ltb, le-leb, lt-leb}
use Rattle.std.proofs.lemmas.Bool.Decides.{nat_tests}
use Rattle.std.proofs.lemmas.List.{append_assoc, append-nil, map-append, length-append, take-append-drop}
use Rattle.std.proofs.lemmas.List.Elements.{filter-append}
use Rattle.std.proofs.Math.Nat.{mod-eq_of_lt, mod-lt, add-mod_right, div-mul-le_self}
use Rattle.std.proofs.lemmas.Nat.{le-div}
use Rattle.atomic_table.proofs.Lists.{one_turn}
use Rattle.asm_pool.specs.declared.worker.TaskRun.{TaskRun}
use Rattle.asm_pool.specs.declared.worker.Worker.{Worker}
use Rattle.asm_pool.specs.declared.lanes.SeatView.{SeatView}
use Rattle.asm_pool.specs.code.WorkDone.{times, tasks_of, tasks_by, HasDone, HasEachOnce}
use Rattle.asm_pool.specs.code.Lanes.{seat_view, tasks_in, past, HasDrawnAll}
use Rattle.asm_pool.specs.code.WorkersAndSeats.{WorksOn, IsDoneByWorkers}
use Rattle.asm_pool.proofs.LaneSteps.{past-append, lane-of, number-of}
use Rattle.asm_pool.proofs.JoinedWorkers.{AllZip-append, tasks_by-append}

-- above each number that was drawn from the lane
abbrev pub top : ℕ → ℕ → List ℕ → ℕ
top lanes lane [] = 0
top lanes lane (t ∷ drawn) = max (cond (eqb (t % lanes) lane) (t / lanes + 1) 0) (top lanes lane drawn)

top-append : (lanes lane : ℕ) (xs ys : List ℕ) → top lanes lane (xs ++ ys) ≡ max (top lanes lane xs) (top lanes lane ys)
top-append lanes lane [] ys = omega arith
top-append lanes lane (x ∷ xs) ys = let r = top-append lanes lane xs ys in omega arith

top-le : (lanes lane number : ℕ) (drawn : List ℕ) → ((t : ℕ) → 0 < times t drawn → t % lanes ≡ lane → t / lanes < number) → top lanes lane drawn ≤ number
top-le lanes lane number [] each = omega arith
top-le lanes lane number (t ∷ drawn) each =
    let rest = top-le lanes lane number drawn (λ u some of. each u (omega arith) of) in
    let hit = eq-eqb t t refl in
    ⊎_elim (λ (of : t % lanes ≡ lane). let here = each t (grind (arith, hit)) of in let own = eq-eqb (t % lanes) lane of in grind (arith, rest, here, own))
    (λ (other : t % lanes ≢ lane). let miss = ne_eqb (t % lanes) lane other in grind (arith, rest, miss)) (cases_eq (t % lanes) lane)

-- a draw of a task brings the end of the lane nearer
pub nearer : (lanes count lane number : ℕ) (drawn more : List ℕ) → lane < lanes → lane + number * lanes < count → number ≤ number * lanes → more ≡ drawn ++ (lane + number * lanes) ∷ []
    → ((t : ℕ) → 0 < times t drawn → t % lanes ≡ lane → t / lanes < number) → count - top lanes lane more < count - top lanes lane drawn
nearer lanes count lane number drawn more low below grow is each =
    let old = top-le lanes lane number drawn each in
    let all : top lanes lane more ≡ max (top lanes lane drawn) (top lanes lane ((lane + number * lanes) ∷ [])) = ap (top lanes lane) is ∙ top-append lanes lane drawn ((lane + number * lanes) ∷ []) in
    let hit = eq-eqb ((lane + number * lanes) % lanes) lane (lane-of lanes lane number low) in
    let new : top lanes lane ((lane + number * lanes) ∷ []) ≡ number + 1 = rw hit (ap (λ (k : ℕ). max (k + 1) 0) (number-of lanes lane number low) ∙ omega arith) in
    omega arith

module _ {Hand Out : Type 0} (runs : ℕ → Hand → Out → Hand → Type 0) (count : ℕ) where
  Folds-append : (xs ys : List (TaskRun Out)) (a b c : Hand) → HasDone runs a xs b → HasDone runs b ys c → HasDone runs a (xs ++ ys) c
  Folds-append [] ys a b c here there = subst (λ (h : Hand). HasDone runs h ys c) (sym here) there
  Folds-append (x ∷ xs) ys a b c here there = (here.0, here.1, Folds-append xs ys here.0 b c here.2 there)

  pub works-none : (v : SeatView) (w : Worker Hand Out) → WorksOn runs count v v w w
  works-none v w = record { drawn = []; done = []; draws = sym (append-nil v.drawn); does = sym (append-nil w.done.items); tasks = refl; hand = refl }

  pub works-then : (a b c : SeatView) (u v w : Worker Hand Out) → WorksOn runs count a b u v → WorksOn runs count b c v w → WorksOn runs count a c u w
  works-then a b c u v w one two = record {
    drawn = one.drawn ++ two.drawn;
    done = one.done ++ two.done;
    draws = two.draws ∙ (ap (λ l. l ++ two.drawn) one.draws ∙ append_assoc a.drawn one.drawn two.drawn);
    does = two.does ∙ (ap (λ l. l ++ two.done) one.does ∙ append_assoc u.done.items one.done two.done);
    tasks = map-append (λ (d : TaskRun Out). d.task) one.done two.done ∙ ((λ i. one.tasks i ++ two.tasks i) ∙ sym (filter-append (λ t. ltb t count) one.drawn two.drawn));
    hand = Folds-append one.done two.done u.hand v.hand w.hand one.hand two.hand;
  }

  pub works-task : (a b : SeatView) (u v : Worker Hand Out) (t : ℕ) (d : TaskRun Out) → t < count → d.task ≡ t → b.drawn ≡ a.drawn ++ t ∷ [] → v.done.items ≡ u.done.items ++ d ∷ [] → runs t u.hand d.out v.hand → WorksOn runs count a b u v
  works-task a b u v t d low is draws does run = let below = lt-ltb t count low in record {
    drawn = t ∷ [];
    done = d ∷ [];
    draws = draws;
    does = does;
    tasks = rw below (ap (λ (n : ℕ). n ∷ []) is);
    hand = (v.hand, subst (λ (n : ℕ). runs n u.hand d.out v.hand) (sym is) run, refl);
  }

  pub works-end : (a b : SeatView) (w : Worker Hand Out) (t : ℕ) → count ≤ t → b.drawn ≡ a.drawn ++ t ∷ [] → WorksOn runs count a b w w
  works-end a b w t high draws = let over = le-ltb t count high in record { drawn = t ∷ []; done = []; draws = draws; does = sym (append-nil w.done.items); tasks = rw over refl; hand = refl }

pub past-task : (lanes count lane t : ℕ) (drawn more : List ℕ) → t < count → more ≡ drawn ++ t ∷ [] → past lanes count lane more ≡ past lanes count lane drawn
past-task lanes count lane t drawn more low is = let a = past-append lanes count lane drawn (t ∷ []) in let b : past lanes count lane more ≡ past lanes count lane (drawn ++ t ∷ []) = ap (past lanes count lane) is in
    let c : past lanes count lane (t ∷ []) ≡ 0 = grind (arith, nat_tests) in omega arith

pub past-end : (lanes count lane number other : ℕ) (drawn more : List ℕ) → lane < lanes → count ≤ lane + number * lanes → more ≡ drawn ++ (lane + number * lanes) ∷ []
    → past lanes count other more ≡ past lanes count other drawn + cond (eqb other lane) 1 0
past-end lanes count lane number other drawn more low high is =
    let t : ℕ = lane + number * lanes in
    let a = past-append lanes count other drawn (t ∷ []) in let b : past lanes count other more ≡ past lanes count other (drawn ++ t ∷ []) = ap (past lanes count other) is in
    let of : t % lanes ≡ lane = lane-of lanes lane number low in let over = le-leb count t high in
    let c : past lanes count other (t ∷ []) ≡ cond (eqb other lane) 1 0 = rw (of, over) (grind (arith, nat_tests)) in omega arith

-- lanes in turn
apart : (lanes own i j : ℕ) → i < j → j < i + lanes → (own + i) % lanes ≢ (own + j) % lanes
apart lanes own i j less near same = let e = one_turn (own + i) (own + j) lanes (omega arith) (omega arith) same in omega arith

every-lane : (lanes own lane : ℕ) → own < lanes → lane < lanes → (i : ℕ) × (i < lanes) × ((own + i) % lanes ≡ lane)
every-lane lanes own lane low inside = ⊎_elim
    (λ (before : lane < own). let e : own + (lane + lanes - own) ≡ lane + lanes = omega arith in (lane + lanes - own, omega arith, ap (λ (k : ℕ). k % lanes) e ∙ (add-mod_right lane lanes ∙ mod-eq_of_lt inside)))
    (λ (after : own ≤ lane). let e : own + (lane - own) ≡ lane = omega arith in (lane - own, omega arith, ap (λ (k : ℕ). k % lanes) e ∙ mod-eq_of_lt inside))
    (cases_lt lane own)

module _ (lanes own turn : ℕ) (p q : ℕ → ℕ) (grows : (o : ℕ) → q o ≡ p o + cond (eqb o ((own + turn) % lanes)) 1 0) where
  pub emptied-more : turn < lanes → ((i : ℕ) → i < turn → p ((own + i) % lanes) ≡ 1) → ((i : ℕ) → turn ≤ i → i < lanes → p ((own + i) % lanes) ≡ 0) → (i : ℕ) → i < turn + 1 → q ((own + i) % lanes) ≡ 1
  emptied-more inside emptied ahead i low = ⊎_elim
      (λ (less : i < turn). let miss = ne_eqb ((own + i) % lanes) ((own + turn) % lanes) (apart lanes own i turn less (omega arith)) in let g = grows ((own + i) % lanes) in let e = emptied i less in grind (arith, miss, g, e))
      (λ (more : turn ≤ i). let same : i ≡ turn = omega arith in let hit = eq-eqb ((own + i) % lanes) ((own + turn) % lanes) (ap (λ (k : ℕ). (own + k) % lanes) same) in
      let g = grows ((own + i) % lanes) in let e = ahead i more (omega arith) in grind (arith, hit, g, e))
      (cases_lt i turn)

  pub ahead-more : ((i : ℕ) → turn ≤ i → i < lanes → p ((own + i) % lanes) ≡ 0) → (i : ℕ) → turn + 1 ≤ i → i < lanes → q ((own + i) % lanes) ≡ 0
  ahead-more ahead i more inside = let miss = ne_eqb ((own + i) % lanes) ((own + turn) % lanes) (λ e. apart lanes own turn i (omega arith) (omega arith) (sym e)) in
      let g = grows ((own + i) % lanes) in let e = ahead i (omega arith) inside in grind (arith, miss, g, e)

module _ {Hand Out : Type 0} (runs : ℕ → Hand → Out → Hand → Type 0) (lanes count : ℕ) where
  pub worked-one : (own : ℕ) (before after : SeatView) (old new : Worker Hand Out) → before.drawn ≡ [] → old.done.items ≡ [] → after.lanes ≡ lanes → after.parts ≡ 1 → WorksOn runs count before after old new → own < lanes
      → ((i : ℕ) → i < lanes → past lanes count ((own + i) % lanes) after.drawn ≡ 1) → IsDoneByWorkers runs lanes count (old.hand ∷ []) (new ∷ []) after
  worked-one own before after old new blank fresh width part works low emptied =
      let done : new.done.items ≡ works.done = works.does ∙ ap (λ l. l ++ works.done) fresh in
      let drawn : after.drawn ≡ works.drawn = works.draws ∙ ap (λ l. l ++ works.drawn) blank in
      record {
        width = width;
        parts = part;
        tasks = ap tasks_of (append-nil new.done.items ∙ done) ∙ (works.tasks ∙ ap (tasks_in count) (sym drawn));
        ends = λ lane inside. let turn = every-lane lanes own lane low inside in let e : past lanes count lane after.drawn ≡ 1 = sym (ap (λ (l : ℕ). past lanes count l after.drawn) turn.2) ∙ emptied turn.0 turn.1 in omega arith;
        ran = (subst (λ l. HasDone runs old.hand l new.hand) (sym done) works.hand, tt);
      }

  pub worked-both : (xs ys : List Hand) (us vs : List (Worker Hand Out)) (v w : SeatView) → IsDoneByWorkers runs lanes count xs us v → IsDoneByWorkers runs lanes count ys vs w
      → IsDoneByWorkers runs lanes count (xs ++ ys) (us ++ vs) (seat_view v.lanes (v.parts + w.parts) (v.drawn ++ w.drawn))
  worked-both xs ys us vs v w here there = record {
    width = here.width;
    parts = (λ i. here.parts i + there.parts i) ∙ sym (length-append xs ys);
    tasks = tasks_by-append us vs ∙ ((λ i. here.tasks i ++ there.tasks i) ∙ sym (filter-append (λ t. ltb t count) v.drawn w.drawn));
    ends = λ lane inside. let a = past-append lanes count lane v.drawn w.drawn in let e = here.ends lane inside in omega arith;
    ran = AllZip-append (λ (hand : Hand) (u : Worker Hand Out). HasDone runs hand u.done.items u.hand) xs ys us vs here.ran there.ran;
  }

-- if the numbers of each lane were drawn in order and past its end, each task was drawn once
times-tasks : (count n : ℕ) (drawn : List ℕ) → times n (tasks_in count drawn) ≡ cond (ltb n count) (times n drawn) 0
times-tasks count n [] = grind (arith, nat_tests)
times-tasks count n (t ∷ drawn) = let r = times-tasks count n drawn in ⊎_elim
    (λ (low : t < count). let b = lt-ltb t count low in rw b (grind (arith, nat_tests, r)))
    (λ (high : count ≤ t). let b = le-ltb t count high in rw b (grind (arith, nat_tests, r, high)))
    (cases_lt t count)

-- a number that is drawn and past the end of the lane
some-past : (lanes count lane : ℕ) (drawn : List ℕ) → 0 < past lanes count lane drawn → (t : ℕ) × (0 < times t drawn) × (t % lanes ≡ lane) × (count ≤ t)
some-past lanes count lane [] some = absurd (omega arith)
some-past lanes count lane (t ∷ drawn) some = ⊎_elim
    (λ (of : t % lanes ≡ lane). ⊎_elim
    (λ (low : t < count). let under = lt-leb count t low in let own = eq-eqb (t % lanes) lane of in let r = some-past lanes count lane drawn (grind (arith, some, under, own)) in let b = r.1 in (r.0, omega arith, r.2, r.3))
    (λ (high : count ≤ t). let hit = eq-eqb t t refl in (t, grind (arith, hit), of, high))
    (cases_lt t count))
    (λ (other : t % lanes ≢ lane). let miss = ne_eqb (t % lanes) lane other in let r = some-past lanes count lane drawn (grind (arith, some, miss)) in let b = r.1 in (r.0, omega arith, r.2, r.3))
    (cases_eq (t % lanes) lane)

below-past : (lanes n t : ℕ) → 0 < lanes → n < t → n / lanes ≤ t / lanes
below-past lanes n t some less = le-div (n / lanes) t lanes some (let h = div-mul-le_self n lanes in omega arith)

pub all-dealt : (lanes count : ℕ) (drawn : List ℕ) → 0 < lanes → HasDrawnAll lanes drawn → ((lane : ℕ) → lane < lanes → 0 < past lanes count lane drawn) → HasEachOnce count (tasks_in count drawn)
all-dealt lanes count drawn some dealt ends n = times-tasks count n drawn ∙ ⊎_elim
    (λ (low : n < count).
    let last = some-past lanes count (n % lanes) drawn (ends (n % lanes) (mod-lt n some)) in
    let less = below-past lanes n last.0 some (let h = last.3 in omega arith) in
    let top_drawn : times last.0 drawn ≡ cond (ltb (last.0 / lanes) (get_or dealt.0 (n % lanes) 0)) 1 0 = dealt.1 last.0 ∙ ap (λ (l : ℕ). cond (ltb (last.0 / lanes) (get_or dealt.0 l 0)) 1 0) last.2 in
    let found = last.1 in let mine = dealt.1 n in let b = lt-ltb n count low in
    rw b (grind (arith, nat_tests, mine, top_drawn, found, less)))
    (λ (high : count ≤ n). let b = le-ltb n count high in rw b refl)
    (cases_lt n count)

pub worked-halves : {Hand Out : Type 0} (runs : ℕ → Hand → Out → Hand → Type 0) (lanes count : ℕ) (hands front back : List Hand) (cut : ℕ) (us vs workers : List (Worker Hand Out)) (v w after : SeatView) → front ≡ take cut hands
    → back ≡ drop cut hands → workers ≡ us ++ vs → after ≡ seat_view v.lanes (v.parts + w.parts) (v.drawn ++ w.drawn) → IsDoneByWorkers runs lanes count front us v → IsDoneByWorkers runs lanes count back vs w → IsDoneByWorkers runs lanes count hands workers after
worked-halves {Hand} {Out} runs lanes count hands front back cut us vs workers v w after is_front is_back is joined here there =
    let whole : front ++ back ≡ hands = (λ i. is_front i ++ is_back i) ∙ take-append-drop cut hands in
    subst (λ (p : List Hand × (List (Worker Hand Out) × SeatView)). IsDoneByWorkers runs lanes count p.0 p.1.0 p.1.1) (λ i. (whole i, (sym is i, sym joined i))) (worked-both runs lanes count front back us vs v w here there)

-- the workers whose seats are joined to the one left have done each task once
pub all-worked : {Hand Out : Type 0} (runs : ℕ → Hand → Out → Hand → Type 0) (lanes all count : ℕ) (hands : List Hand) (workers : List (Worker Hand Out)) (v : SeatView) → 0 < lanes → all ≡ count → HasDrawnAll lanes v.drawn
    → IsDoneByWorkers runs lanes all hands workers v → HasEachOnce count (tasks_by workers)
all-worked runs lanes all count hands workers v some same dealt worked = subst (λ (n : ℕ). HasEachOnce n (tasks_by workers)) same (subst (HasEachOnce all) (sym worked.tasks) (all-dealt lanes all v.drawn some dealt worked.ends))
