-- Free. What is marked, node by node, and where it leads.
use Rattle.std.proofs.Common.{◌≡◌, ◌≢◌, ◌<◌, ◌≤◌, ◌+◌, ◌↔◌, ℕ, suc, Bool, true, false, cond, List, [], ◌∷◌, ◌++◌, ◌⊎◌, length, get_or, set, refl, sym, ap, subst, ◌∙◌, inl, inr, arith, ⊎_elim, get_or-set_same, get_or-set_other, add-one, IsTrue}
use Rattle.std.specs.Prelude.{Contains, Some, slice_get}
use Rattle.std.proofs.lemmas.Bool.{cases_eq, cases_lt, false≢true}
use Rattle.std.proofs.lemmas.List.{length-set, length_push, get_or_past, get_or_push, get_or_append_left}
use Rattle.std.proofs.lemmas.Option.{slice_get_within, get_or_from_slice_get}
use Rattle.std.proofs.lemmas.List.Elements.{Contains-append_left, Contains-push, Contains-push_cases}
use Rattle.std.proofs.lemmas.List.Sums.{sum_by-set}
use Rattle.asm_check.specs.code.cycles.Graph.{IsGraph, next_of}
use Rattle.asm_check.specs.code.cycles.MarkedNodes.{is_marked, unmarked, HasMarked, HasMarkedStep}
use Rattle.asm_check.specs.CallGraph.{LeadsTo, at_once, BeginsPath}
use Rattle.asm_check.proofs.CycleLemmas.MarkedIsReached.{marked_on}
use Rattle.asm_check.proofs.CycleLemmas.CycleSearchSteps.{next_within}
use Rattle.asm_check.proofs.CycleLemmas.AcyclicNames.{one_more}

-- ---- one node after another

pub none_marked : (marks : List Bool) (waiting : List ℕ) → HasMarked [] marks waiting marks waiting
none_marked marks waiting = record {
  len = refl;
  each = λ n c. absurd (omega (arith, c.1));
  kept = λ n h. h;
  new_ones = λ n h. inl h;
  still_waiting = λ n c. c;
  waiting = λ n c. inl c;
  work = omega arith;
}

module _ (ns : List ℕ) (old : List Bool) (before : List ℕ) (new : List Bool) (after : List ℕ) (is : HasMarked ns old before new after) where
  -- a node that is marked already
  pub marked_already : (g : ℕ) → is_marked new g ≡ true → HasMarked (ns ++ g ∷ []) old before new after
  marked_already g there = record {
    len = is.len;
    each = λ n c. ⊎_elim (λ c'. is.each n c') (λ (same : g ≡ n). subst (λ x. is_marked new x ≡ true) same there) (Contains-push_cases ns g n c);
    kept = is.kept;
    new_ones = λ n h. ⊎_elim (λ (was : is_marked old n ≡ true). inl was) (λ (both : Contains ns n × Contains after n). inr (Contains-append_left ns (g ∷ []) n both.0, both.1)) (is.new_ones n h);
    still_waiting = is.still_waiting;
    waiting = λ n c. ⊎_elim (λ (b : Contains before n). inl b) (λ (i : Contains ns n). inr (Contains-append_left ns (g ∷ []) n i)) (is.waiting n c);
    work = is.work;
  }

  -- a node that is marked now
  module _ (g : ℕ) (within : g < length new) (un : is_marked new g ≡ false) where
    same_mark : is_marked (set new g true) g ≡ true
    same_mark = get_or-set_same new g true false within

    still : (n : ℕ) → is_marked new n ≡ true → is_marked (set new g true) n ≡ true
    still n h =
        ⊎_elim
        (λ (same : n ≡ g). subst (λ x. is_marked (set new g true) x ≡ true) (sym same) same_mark)
        (λ (other : n ≢ g). get_or-set_other new g n true false other ∙ h)
        (cases_eq n g)

    fewer : unmarked (set new g true) + 1 ≡ unmarked new
    fewer =
        let sums : unmarked (set new g true) + cond (get_or new g false) 0 1 ≡ unmarked new + 0 = sum_by-set (λ b. cond b 0 1) new g true false within in
        let was : ◌≡◌ {A = ℕ} (cond (get_or new g false) 0 1) 1 = ap (λ b. cond b 0 1) un in
        omega arith

    pub marked_now : HasMarked (ns ++ g ∷ []) old before (set new g true) (after ++ g ∷ [])
    marked_now = record {
      len = length-set new g true ∙ is.len;
      each = λ n c. ⊎_elim (λ c'. still n (is.each n c')) (λ (same : g ≡ n). subst (λ x. is_marked (set new g true) x ≡ true) same same_mark) (Contains-push_cases ns g n c);
      kept = λ n h. still n (is.kept n h);
      new_ones = λ n h.
          ⊎_elim
          (λ (same : n ≡ g). inr (subst (Contains (ns ++ g ∷ [])) (sym same) (Contains-push ns g), subst (Contains (after ++ g ∷ [])) (sym same) (Contains-push after g)))
          (λ (other : n ≢ g).
          ⊎_elim
          (λ (was : is_marked old n ≡ true). inl was)
          (λ (both : Contains ns n × Contains after n). inr (Contains-append_left ns (g ∷ []) n both.0, Contains-append_left after (g ∷ []) n both.1))
          (is.new_ones n (sym (get_or-set_other new g n true false other) ∙ h)))
          (cases_eq n g);
      still_waiting = λ n c. Contains-append_left after (g ∷ []) n (is.still_waiting n c);
      waiting = λ n c.
          ⊎_elim
          (λ (c' : Contains after n). ⊎_elim (λ (b : Contains before n). inl b) (λ (i : Contains ns n). inr (Contains-append_left ns (g ∷ []) n i)) (is.waiting n c'))
          (λ (same : g ≡ n). inr (subst (Contains (ns ++ g ∷ [])) same (Contains-push ns g)))
          (Contains-push_cases after g n c);
      work = let is_work : unmarked new + length after ≤ unmarked old + length before = is.work in omega (arith, fewer, length_push after g);
    }

-- ---- all nodes to which steps lead

marked_within : (marks : List Bool) (n : ℕ) → is_marked marks n ≡ true → n < length marks
marked_within marks n h = ⊎_elim (λ (l : n < length marks). l) (λ (past : length marks ≤ n). absurd (false≢true (sym (get_or_past marks n false past) ∙ h))) (cases_lt n (length marks))

-- what is marked is where steps lead from the node, and what was not followed yet waits
pub record IsReachedFrom (lists : List (List ℕ)) (node : ℕ) (marks : List Bool) (waiting : List ℕ) : Type 0 where
  pub len : length marks ≡ length lists
  pub sound : (n : ℕ) → is_marked marks n ≡ true → LeadsTo (next_of lists) node n
  pub begun : (n : ℕ) → Contains waiting n → (node ≡ n) ⊎ (is_marked marks n ≡ true)
  pub followed : (n : ℕ) → (node ≡ n) ⊎ (is_marked marks n ≡ true) → Contains waiting n ⊎ ((g : ℕ) → Contains (next_of lists n) g → is_marked marks g ≡ true)

module _ (lists : List (List ℕ)) (node : ℕ) where
  pub only_node : (marks : List Bool) → length marks ≡ length lists → ((n : ℕ) → is_marked marks n ≡ false) → IsReachedFrom lists node marks (node ∷ [])
  only_node marks long none = record {
    len = long;
    sound = λ n h. absurd (false≢true (sym (none n) ∙ h));
    begun = λ n c. ⊎_elim (λ (before : Contains [] n). absurd (omega (arith, before.1))) (λ (same : node ≡ n). inl same) (Contains-push_cases [] node n c);
    followed = λ n r. ⊎_elim (λ (same : node ≡ n). inl (subst (Contains (node ∷ [])) same (Contains-push [] node))) (λ (h : is_marked marks n ≡ true). absurd (false≢true (sym (none n) ∙ h))) r;
  }

  pub waiting_within : (marks : List Bool) (waiting : List ℕ) (n : ℕ) → node < length lists → IsReachedFrom lists node marks waiting → Contains waiting n → n < length lists
  waiting_within marks waiting n within is c =
      ⊎_elim (λ (same : node ≡ n). subst (λ x. x < length lists) same within) (λ (h : is_marked marks n ≡ true). let l : n < length marks = marked_within marks n h in omega (arith, is.len)) (is.begun n c)

  module _ (marks : List Bool) (waiting : List ℕ) (from : ℕ) (is : IsReachedFrom lists node marks (waiting ++ from ∷ []))
      (marks' : List Bool) (waiting' : List ℕ) (now : HasMarked (next_of lists from) marks waiting marks' waiting') where
    leads : (n : ℕ) → Contains (next_of lists from) n → LeadsTo (next_of lists) node n
    leads n c =
        ⊎_elim
        (λ (same : node ≡ from). subst (λ x. LeadsTo (next_of lists) x n) (sym same) (at_once c))
        (λ (h : is_marked marks from ≡ true). one_more (next_of lists) (is.sound from h) c)
        (is.begun from (Contains-push waiting from))

    old_followed : (n : ℕ) → (node ≡ n) ⊎ (is_marked marks n ≡ true) → Contains waiting' n ⊎ ((g : ℕ) → Contains (next_of lists n) g → is_marked marks' g ≡ true)
    old_followed n r =
        ⊎_elim
        (λ (c : Contains (waiting ++ from ∷ []) n).
        ⊎_elim
        (λ (before : Contains waiting n). inl (now.still_waiting n before))
        (λ (same : from ≡ n). inr (λ g step. now.each g (subst (λ x. Contains (next_of lists x) g) (sym same) step)))
        (Contains-push_cases waiting from n c))
        (λ (all : (g : ℕ) → Contains (next_of lists n) g → is_marked marks g ≡ true). inr (λ g step. now.kept g (all g step)))
        (is.followed n r)

    pub follow : IsReachedFrom lists node marks' waiting'
    follow = record {
      len = now.len ∙ is.len;
      sound = λ n h. ⊎_elim (λ (old : is_marked marks n ≡ true). is.sound n old) (λ (both : Contains (next_of lists from) n × Contains waiting' n). leads n both.0) (now.new_ones n h);
      begun = λ n c.
          ⊎_elim
          (λ (before : Contains waiting n). ⊎_elim (λ (same : node ≡ n). inl same) (λ (h : is_marked marks n ≡ true). inr (now.kept n h)) (is.begun n (Contains-append_left waiting (from ∷ []) n before)))
          (λ (step : Contains (next_of lists from) n). inr (now.each n step))
          (now.waiting n c);
      followed = λ n r.
          ⊎_elim
          (λ (same : node ≡ n). old_followed n (inl same))
          (λ (h : is_marked marks' n ≡ true).
          ⊎_elim (λ (old : is_marked marks n ≡ true). old_followed n (inr old)) (λ (both : Contains (next_of lists from) n × Contains waiting' n). inl both.1) (now.new_ones n h))
          r;
    }

  pub all_followed : (marks : List Bool) → IsReachedFrom lists node marks [] → (n : ℕ) → LeadsTo (next_of lists) node n → is_marked marks n ≡ true
  all_followed marks is n way = marked_on (next_of lists) (is_marked marks) (λ g h m step. on g (inr m) h step) (λ h step. on node (inl refl) h step) way
    where
      on : (g : ℕ) → (node ≡ g) ⊎ (is_marked marks g ≡ true) → (h : ℕ) → Contains (next_of lists g) h → is_marked marks h ≡ true
      on g r = ⊎_elim (λ (c : Contains [] g). absurd (omega (arith, c.1))) (λ (all : (h : ℕ) → Contains (next_of lists g) h → is_marked marks h ≡ true). all) (is.followed g r)

-- ---- ways of one more step

module _ (lists : List (List ℕ)) (k len : ℕ) (long : len ≡ length lists) (ways longer : List Bool) (graph : IsGraph lists)
    (are : (n : ℕ) → n < len → IsTrue (is_marked ways n) ↔ BeginsPath (next_of lists) k n)
    (now : (n : ℕ) → n < len → IsTrue (is_marked longer n) ↔ HasMarkedStep (next_of lists n) ways) where
  further_ways : (n : ℕ) → n < len → IsTrue (is_marked longer n) ↔ BeginsPath (next_of lists) (suc k) n
  further_ways n within = (
    λ h. let s = (now n within).0 h in (s.0, s.1, (are s.0 (step_within s.0 s.1)).0 s.2),
    λ w. (now n within).1 (w.0, w.1, (are w.0 (step_within w.0 w.1)).1 w.2),
  )
    where
      step_within : (g : ℕ) → Contains (next_of lists n) g → g < len
      step_within g c = let below : g < length lists = next_within lists n g graph (omega arith) c in omega arith

  pub longer_ways : (n : ℕ) → n < len → IsTrue (is_marked longer n) ↔ BeginsPath (next_of lists) (k + 1) n
  longer_ways n within = subst (λ j. IsTrue (is_marked longer n) ↔ BeginsPath (next_of lists) j n) (sym (add-one k)) (further_ways n within)

-- one more flag
pub answered : (P : ℕ → Type 0) (longer : List Bool) (i : ℕ) (b : Bool) → length longer ≡ i → ((n : ℕ) → n < i → IsTrue (is_marked longer n) ↔ P n) → IsTrue b ↔ P i
    → (n : ℕ) → n < i + 1 → IsTrue (is_marked (longer ++ b ∷ []) n) ↔ P n
answered P longer i b long before here n below =
    ⊎_elim
    (λ (same : n ≡ i). subst (λ x. IsTrue (is_marked (longer ++ b ∷ []) x) ↔ P x) (sym same) (subst (λ x. IsTrue x ↔ P i) (sym (get_or_push longer b false i long)) here))
    (λ (other : n ≢ i). let less : n < length longer = omega arith in subst (λ x. IsTrue x ↔ P n) (sym (get_or_append_left longer (b ∷ []) false n less)) (before n (omega arith)))
    (cases_eq n i)

-- what a list of flags says
pub answers : (P : ℕ → Type 0) (ways : List Bool) (len : ℕ) → length ways ≡ len → ((n : ℕ) → n < len → IsTrue (is_marked ways n) ↔ P n) → (n : ℕ) → (slice_get ways n ≡ Some true → P n) × (slice_get ways n ≡ Some false → ¬ (P n))
answers P ways len long are n = (
  λ at. (are n (let l : n < length ways = slice_get_within ways n true at in omega arith)).0 (get_or_from_slice_get ways n true false at),
  λ at p. absurd (false≢true (sym (get_or_from_slice_get ways n false false at) ∙ (are n (let l : n < length ways = slice_get_within ways n false at in omega arith)).1 p)),
)
