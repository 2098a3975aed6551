-- Free. The steps of a depth-first search.
use Rattle.std.proofs.Common.{Bor, Bool, true, false, map, ◌≡◌, ◌≢◌, ◌<◌, ◌≤◌, ◌+◌, ◌-◌, ℕ, zero, suc, List, [], ◌∷◌, ◌++◌, length, get_or, set, take, refl, sym, ap, subst, ◌∙◌, inl, inr, arith, ⊎_elim, get_or-set_same, get_or-set_other}
use Rattle.std.specs.Prelude.{Option, All, Contains, Some, None, slice_get, sum_by}
use Rattle.std.specs.Global.{Vec}
use Rattle.std.specs.Option.{option_copied, option_map}
use Rattle.std.specs.Slice.{IsItemAt}
use Rattle.std.proofs.lemmas.Bool.{cases_eq, false≢true}
use Rattle.std.proofs.lemmas.List.{length-set, length-map, length-take-le, length_push, take_more, take_all, get_or_default, get_or_read}
use Rattle.std.proofs.lemmas.List.Elements.{All-nil, All-get_or, All-cons, All-head, All-tail, All-push, All-pop, All-weaker, All-contains, Contains-append_left, Contains-push, Contains-push_cases}
use Rattle.std.proofs.lemmas.List.Sums.{sum_by-set}
use Rattle.std.proofs.lemmas.Option.{slice_get-map, slice_get-get_or, same_Some, slice_get_past, slice_get_read, slice_get_within, get_or_from_slice_get}
use Rattle.asm_check.specs.declared.cycles.cycle_search.Mark.{Mark}
use Rattle.asm_check.specs.declared.cycles.cycle_search.Mark.TheVariants.{Unvisited, OnPath, Acyclic, Cyclic}
use Rattle.asm_check.specs.code.cycles.Graph.{IsGraph, next_of, step_lists}
use Rattle.asm_check.specs.code.cycles.CycleSearch.{IsPath, MarkMeans, mark_of, IsSearch, weight, steps_left, work, is_reaching}
use Rattle.asm_check.specs.CallGraph.{LeadsTo, at_once, by_way_of, IsAcyclic, settled, ReachesCycle}
use Rattle.asm_check.proofs.CycleLemmas.AcyclicNames.{one_more, settled_reaches_no_cycle}

-- a list whose last element is x
pub ends : {A : Type 0} (xs : List A) (x : A) → slice_get xs (length xs - 1) ≡ Some x → xs ≡ take (length xs - 1) xs ++ x ∷ []
ends xs x e =
    let within : length xs - 1 < length xs = slice_get_within xs (length xs - 1) x e in
    let more : take (length xs - 1 + 1) xs ≡ take (length xs - 1) xs ++ get_or xs (length xs - 1) x ∷ [] = take_more xs (length xs - 1) x within in
    let whole : take (length xs - 1 + 1) xs ≡ xs = take_all (length xs - 1 + 1) xs (omega arith) in
    let last : get_or xs (length xs - 1) x ≡ x = get_or_from_slice_get xs (length xs - 1) x x e in
    sym whole ∙ more ∙ ap (λ y. take (length xs - 1) xs ++ y ∷ []) last

-- ---- the lists of steps

pub next_is : (vs : List (Vec ℕ)) (n : ℕ) (v : Vec ℕ) → n < length vs → v ≡ get_or vs n v → next_of (step_lists vs) n ≡ v.items
next_is [] n v within at = absurd (omega arith)
next_is (w ∷ vs) zero v within at = ap (λ (x : Vec ℕ). x.items) (sym at)
next_is (w ∷ vs) (suc n) v within at = next_is vs n v (omega arith) at

pub all_within : (lists : List (List ℕ)) (n : ℕ) → IsGraph lists → n < length lists → All (λ m. m < length lists) (next_of lists n)
all_within lists n graph within = All-get_or (All (λ m. m < length lists)) lists n [] within graph

-- the same, if the nodes are counted in another way
pub items_within : (vs : List (Vec ℕ)) (n : ℕ) (v : Vec ℕ) (xs : List ℕ) (len : ℕ) → IsGraph (step_lists vs) → n < length vs → v ≡ get_or vs n v → xs ≡ v.items → len ≡ length vs → All (λ m. m < len) xs
items_within vs n v xs len graph within at items long =
    let same : length (step_lists vs) ≡ length vs = length-map vs (λ (w : Vec ℕ). w.items) in
    subst (All (λ m. m < len)) (next_is vs n v within at ∙ sym items)
    (subst (λ l. All (λ m. m < l) (next_of (step_lists vs) n)) (same ∙ sym long) (all_within (step_lists vs) n graph (omega arith)))

pub next_within : (lists : List (List ℕ)) (n g : ℕ) → IsGraph lists → n < length lists → Contains (next_of lists n) g → g < length lists
next_within lists n g graph within step =
    All-contains (λ m. m < length lists) (next_of lists n) g (all_within lists n graph within) step

pub Contains-at : (ns : List ℕ) (k g : ℕ) → slice_get ns k ≡ Some g → Contains ns g
Contains-at ns k g at = (k, slice_get_within ns k g at, get_or_from_slice_get ns k g g at)

pub past_end : {A : Type 0} (xs : List A) (k : ℕ) → slice_get xs k ≡ None → length xs ≤ k
past_end [] k at = omega arith
past_end (x ∷ xs) zero at = absurd (cc)
past_end (x ∷ xs) (suc k) at = let rest : length xs ≤ k = past_end xs k at in omega arith

pub copied_is : (xs : List ℕ) (i : ℕ) (r : Option (Bor ℕ)) → IsItemAt xs i r → option_copied r ≡ slice_get xs i
copied_is xs i None is = sym (slice_get_past xs i is.3)
copied_is xs i (Some x) is = sym (slice_get_read xs (length xs) i x.now refl is.3.0 (is.3.1 x.now))

-- ---- paths

module _ (next : ℕ → List ℕ) where
  IsPath-push : (path : List ℕ) (n : ℕ) → IsPath next path → All (λ m. LeadsTo next m n) path → IsPath next (path ++ n ∷ [])
  IsPath-push [] n is lead = (All-nil (LeadsTo next n), tt)
  IsPath-push (m ∷ path) n is lead = (
    All-push (LeadsTo next m) path n is.0 (All-head (λ x. LeadsTo next x n) m path lead),
    IsPath-push path n is.1 (All-tail (λ x. LeadsTo next x n) m path lead),
  )

  IsPath-front : (path : List ℕ) (n : ℕ) → IsPath next (path ++ n ∷ []) → IsPath next path
  IsPath-front [] n is = tt
  IsPath-front (m ∷ path) n is = ((All-pop (LeadsTo next m) (path ++ n ∷ []) path (Some n) refl is.0).0, IsPath-front path n is.1)

  leads_to_last : (path : List ℕ) (n : ℕ) → IsPath next (path ++ n ∷ []) → All (λ m. LeadsTo next m n) path
  leads_to_last [] n is = All-nil (λ m. LeadsTo next m n)
  leads_to_last (m ∷ path) n is =
      All-cons (λ x. LeadsTo next x n) m path (All-contains (LeadsTo next m) (path ++ n ∷ []) n is.0 (Contains-push path n)) (leads_to_last path n is.1)

  -- a step from the last node
  leads_on : (path : List ℕ) (n g : ℕ) → IsPath next (path ++ n ∷ []) → Contains (next n) g → All (λ m. LeadsTo next m g) (path ++ n ∷ [])
  leads_on path n g is step =
      All-push (λ m. LeadsTo next m g) path n
      (All-weaker (λ m. LeadsTo next m n) (λ m. LeadsTo next m g) (λ m way. one_more next way step) path (leads_to_last path n is))
      (at_once step)

  -- a step to a node of the path, or to one that reaches a cycle
  back_on_path : (path : List ℕ) (n g : ℕ) → IsPath next (path ++ n ∷ []) → Contains (next n) g → Contains (path ++ n ∷ []) g → ReachesCycle next n
  back_on_path path n g is step on = (g, inr (at_once step), All-contains (λ m. LeadsTo next m g) (path ++ n ∷ []) g (leads_on path n g is step) on)

  onward : (n g : ℕ) → Contains (next n) g → ReachesCycle next g → ReachesCycle next n
  onward n g step (h, inl e, back) = (h, inr (subst (LeadsTo next n) e (at_once step)), back)
  onward n g step (h, inr way, back) = (h, inr (by_way_of g step way), back)

  -- ---- marks, as the path grows and shrinks

  longer : (path : List ℕ) (g n : ℕ) (m : Mark) → MarkMeans next path n m → MarkMeans next (path ++ g ∷ []) n m
  longer path g n Unvisited is = tt
  longer path g n OnPath on = Contains-append_left path (g ∷ []) n on
  longer path g n Acyclic is = is
  longer path g n Cyclic is = is

  shorter : (path : List ℕ) (g n : ℕ) (m : Mark) → g ≢ n → MarkMeans next (path ++ g ∷ []) n m → MarkMeans next path n m
  shorter path g n Unvisited other is = tt
  shorter path g n OnPath other on = ⊎_elim (λ before. before) (λ same. absurd (other same)) (Contains-push_cases path g n on)
  shorter path g n Acyclic other is = is
  shorter path g n Cyclic other is = is

mark-set_same : (marks : List Mark) (n : ℕ) (m : Mark) → n < length marks → mark_of (set marks n m) n ≡ m
mark-set_same marks n m within = get_or-set_same marks n m Unvisited within

mark-set_other : (marks : List Mark) (n k : ℕ) (m : Mark) → k ≢ n → mark_of (set marks n m) k ≡ mark_of marks k
mark-set_other marks n k m other = get_or-set_other marks n k m Unvisited other

-- what holds of the new mark, and of the others
each_mark : (P : ℕ → Mark → Type 0) (marks : List Mark) (n : ℕ) (m : Mark) → n < length marks → P n m → ((k : ℕ) → k ≢ n → P k (mark_of marks k)) → (k : ℕ) → P k (mark_of (set marks n m) k)
each_mark P marks n m within here others k =
    ⊎_elim
    (λ (same : k ≡ n). subst (λ i. P i (mark_of (set marks n m) i)) (sym same) (subst (P n) (sym (mark-set_same marks n m within)) here))
    (λ (other : k ≢ n). subst (P k) (sym (mark-set_other marks n k m other)) (others k other))
    (cases_eq k n)

-- a mark that isn't `Unvisited` keeps all that was met
pub keeps_met : (marks : List Mark) (n : ℕ) (m : Mark) → n < length marks → m ≢ Unvisited → (k : ℕ) → mark_of marks k ≢ Unvisited → mark_of (set marks n m) k ≢ Unvisited
keeps_met marks n m within other k met =
    each_mark (λ i x. mark_of marks i ≢ Unvisited → x ≢ Unvisited) marks n m within (λ h. other) (λ i ne h. h) k met

-- ---- the steps of a search

module _ (lists : List (List ℕ)) (marks : List Mark) (looked : List ℕ) where
  pub entered : (path : List ℕ) (g : ℕ) → IsSearch lists marks looked path → g < length lists → All (λ m. LeadsTo (next_of lists) m g) path
      → IsSearch lists (set marks g OnPath) looked (path ++ g ∷ [])
  entered path g is within lead = record {
    marks_len = length-set marks g OnPath ∙ is.marks_len;
    looked_len = is.looked_len;
    means = each_mark (MarkMeans (next_of lists) (path ++ g ∷ [])) marks g OnPath (omega (arith, is.marks_len)) (Contains-push path g)
        (λ n other. longer (next_of lists) path g n (mark_of marks n) (is.means n));
    looked_at = is.looked_at;
    joined = IsPath-push (next_of lists) path g is.joined lead;
    nodes = All-push (λ n. n < length lists) path g is.nodes within;
  }

  pub left : (path : List ℕ) (n : ℕ) (m : Mark) → IsSearch lists marks looked (path ++ n ∷ []) → MarkMeans (next_of lists) path n m
      → IsSearch lists (set marks n m) looked path
  left path n m is here =
      let within : n < length lists = All-contains (λ x. x < length lists) (path ++ n ∷ []) n is.nodes (Contains-push path n) in
      record {
        marks_len = length-set marks n m ∙ is.marks_len;
        looked_len = is.looked_len;
        means = each_mark (MarkMeans (next_of lists) path) marks n m (omega (arith, is.marks_len)) here
            (λ k other. shorter (next_of lists) path n k (mark_of marks k) (λ same. other (sym same)) (is.means k));
        looked_at = is.looked_at;
        joined = IsPath-front (next_of lists) path n is.joined;
        nodes = (All-pop (λ x. x < length lists) (path ++ n ∷ []) path (Some n) refl is.nodes).0;
      }

  pub passed : (path : List ℕ) (n k : ℕ) → IsSearch lists marks looked path → n < length lists → get_or looked n 0 ≡ k → IsAcyclic (next_of lists) (get_or (next_of lists n) k 0)
      → IsSearch lists marks (set looked n (k + 1)) path
  passed path n k is within at ends = record {
    marks_len = is.marks_len;
    looked_len = length-set looked n (k + 1) ∙ is.looked_len;
    means = is.means;
    looked_at = λ i j below.
        ⊎_elim
        (λ (same : i ≡ n).
        let here : get_or (set looked n (k + 1)) i 0 ≡ k + 1 = ap (get_or (set looked n (k + 1)) i) refl ∙ subst (λ x. get_or (set looked n (k + 1)) x 0 ≡ k + 1) (sym same) (get_or-set_same looked n (k + 1) 0 (omega (arith, is.looked_len))) in
        ⊎_elim
        (λ (last : j ≡ k). subst (λ x. IsAcyclic (next_of lists) (get_or (next_of lists x) j 0)) (sym same) (subst (λ x. IsAcyclic (next_of lists) (get_or (next_of lists n) x 0)) (sym last) ends))
        (λ (before : j ≢ k).
        let old : get_or looked i 0 ≡ k = subst (λ x. get_or looked x 0 ≡ k) (sym same) at in
        is.looked_at i j (omega (arith, here, old, below)))
        (cases_eq j k))
        (λ (other : i ≢ n). is.looked_at i j (subst (λ x. j < x) (get_or-set_other looked n i (k + 1) 0 other) below))
        (cases_eq i n);
    joined = is.joined;
    nodes = is.nodes;
  }

  -- a node all of whose steps were looked at
  pub all_looked_at : (path : List ℕ) (n : ℕ) → IsSearch lists marks looked path → length (next_of lists n) ≤ get_or looked n 0 → IsAcyclic (next_of lists) n
  all_looked_at path n is all = settled (λ g step.
      let there : IsAcyclic (next_of lists) (get_or (next_of lists n) step.0 0) = is.looked_at n step.0 (omega (arith, step.1, all)) in
      subst (IsAcyclic (next_of lists)) (get_or_default (next_of lists n) step.0 0 g step.1 ∙ step.2) there)

  pub means_at : (path : List ℕ) (n : ℕ) (m : Mark) → IsSearch lists marks looked path → mark_of marks n ≡ m → MarkMeans (next_of lists) path n m
  means_at path n m is at = subst (MarkMeans (next_of lists) path n) at (is.means n)

  -- a step from the last node to one that is on the path
  pub comes_back : (path : List ℕ) (n g : ℕ) → IsSearch lists marks looked (path ++ n ∷ []) → Contains (next_of lists n) g → mark_of marks g ≡ OnPath → ReachesCycle (next_of lists) n
  comes_back path n g is step at = back_on_path (next_of lists) path n g is.joined step (means_at (path ++ n ∷ []) g OnPath is at)

  -- a step to a node that reaches a cycle
  pub reaches_too : (path : List ℕ) (n g : ℕ) → IsSearch lists marks looked path → Contains (next_of lists n) g → mark_of marks g ≡ Cyclic → ReachesCycle (next_of lists) n
  reaches_too path n g is step at = onward (next_of lists) n g step (means_at path g Cyclic is at)

  pub entered_next : (path : List ℕ) (n g : ℕ) → IsSearch lists marks looked (path ++ n ∷ []) → g < length lists → Contains (next_of lists n) g
      → IsSearch lists (set marks g OnPath) looked (path ++ n ∷ [] ++ g ∷ [])
  entered_next path n g is within step = entered (path ++ n ∷ []) g is within (leads_on (next_of lists) path n g is.joined step)

-- ---- what is left to do

pub weight-entered : (marks : List Mark) (n : ℕ) → n < length marks → mark_of marks n ≡ Unvisited → sum_by weight (set marks n OnPath) + 2 ≡ sum_by weight marks
weight-entered marks n within at =
    let sums : sum_by weight (set marks n OnPath) + weight (get_or marks n Unvisited) ≡ sum_by weight marks + 0 = sum_by-set weight marks n OnPath Unvisited within in
    let was : weight (get_or marks n Unvisited) ≡ 2 = ap weight at in
    omega arith

pub weight-left : (marks : List Mark) (n : ℕ) (m : Mark) → n < length marks → weight m ≡ 0 → sum_by weight (set marks n m) ≤ sum_by weight marks
weight-left marks n m within none =
    let sums : sum_by weight (set marks n m) + weight (get_or marks n Unvisited) ≡ sum_by weight marks + weight m = sum_by-set weight marks n m Unvisited within in
    omega arith

pub steps-passed : (lists : List (List ℕ)) (looked : List ℕ) (n : ℕ) → n < length lists → n < length looked → get_or looked n 0 < length (next_of lists n)
    → steps_left lists (set looked n (get_or looked n 0 + 1)) < steps_left lists looked
steps-passed [] looked n within also more = absurd (omega arith)
steps-passed (ns ∷ lists) [] n within also more = absurd (omega arith)
steps-passed (ns ∷ lists) (k ∷ looked) zero within also more = omega arith
steps-passed (ns ∷ lists) (k ∷ looked) (suc n) within also more =
    let rest : steps_left lists (set looked n (get_or looked n 0 + 1)) < steps_left lists looked = steps-passed lists looked n (omega arith) (omega arith) more in
    omega arith

-- ---- the steps of a search, at the last node of its path

module _ (lists : List (List ℕ)) (marks : List Mark) (looked path : List ℕ) (is : IsSearch lists marks looked path)
    (last k : ℕ) (at_last : slice_get path (length path - 1) ≡ Some last) (read : k ≡ get_or looked last k) where
  front : List ℕ
  front = take (length path - 1) path

  ended : IsSearch lists marks looked (front ++ last ∷ [])
  unfolding front
  ended = subst (IsSearch lists marks looked) (ends path last at_last) is

  pub last_within : last < length lists
  last_within = All-contains (λ n. n < length lists) path last is.nodes (Contains-at path (length path - 1) last at_last)

  looked_is : get_or looked last 0 ≡ k
  looked_is = sym (get_or_read looked last k (omega (arith, is.looked_len, last_within)) read 0)

  pub settles : slice_get (next_of lists last) k ≡ None → IsSearch lists (set marks last Acyclic) looked (take (length path - 1) path)
  unfolding front
  settles none =
      left lists marks looked front last Acyclic ended
      (all_looked_at lists marks looked path last is (let past : length (next_of lists last) ≤ k = past_end (next_of lists last) k none in omega (arith, looked_is)))

  module _ (g : ℕ) (next : slice_get (next_of lists last) k ≡ Some g) where
    step : Contains (next_of lists last) g
    step = Contains-at (next_of lists last) k g next

    pub next_is_within : IsGraph lists → g < length lists
    next_is_within graph = next_within lists last g graph last_within step

    pub returns_to : mark_of marks g ≡ OnPath → IsSearch lists (set marks last Cyclic) looked (take (length path - 1) path)
    unfolding front
    returns_to on = left lists marks looked front last Cyclic ended (comes_back lists marks looked front last g ended step on)

    pub goes_where : mark_of marks g ≡ Cyclic → IsSearch lists (set marks last Cyclic) looked (take (length path - 1) path)
    unfolding front
    goes_where reaching = left lists marks looked front last Cyclic ended (reaches_too lists marks looked path last g is step reaching)

    pub goes_on : IsGraph lists → IsSearch lists (set marks g OnPath) looked (path ++ g ∷ [])
    goes_on graph =
        subst (λ p. IsSearch lists (set marks g OnPath) looked (p ++ g ∷ [])) (sym (ends path last at_last))
        (entered_next lists marks looked (take (length path - 1) path) last g (subst (IsSearch lists marks looked) (ends path last at_last) is) (next_is_within graph) step)

    pub passes : mark_of marks g ≡ Acyclic → IsSearch lists marks (set looked last (k + 1)) path
    passes done =
        passed lists marks looked path last k is last_within looked_is
        (subst (IsAcyclic (next_of lists)) (sym (get_or_from_slice_get (next_of lists last) k g 0 next)) (means_at lists marks looked path g Acyclic is done))

    pub work-passes : work lists marks (set looked last (k + 1)) path < work lists marks looked path
    work-passes =
        let fewer : steps_left lists (set looked last (get_or looked last 0 + 1)) < steps_left lists looked =
        steps-passed lists looked last last_within (omega (arith, is.looked_len, last_within)) (omega (arith, looked_is, slice_get_within (next_of lists last) k g next)) in
        let same : steps_left lists (set looked last (get_or looked last 0 + 1)) ≡ steps_left lists (set looked last (k + 1)) = ap (λ n. steps_left lists (set looked last (n + 1))) looked_is in
        omega arith

  pub work-left : (m : Mark) → weight m ≡ 0 → work lists (set marks last m) looked (take (length path - 1) path) < work lists marks looked path
  work-left m none =
      let lighter : sum_by weight (set marks last m) ≤ sum_by weight marks = weight-left marks last m (omega (arith, is.marks_len, last_within)) none in
      let within : length path - 1 < length path = slice_get_within path (length path - 1) last at_last in
      let long : length (take (length path - 1) path) ≡ length path - 1 = length-take-le (length path - 1) path (omega arith) in
      omega arith

pub work-entered : (lists : List (List ℕ)) (marks : List Mark) (looked path : List ℕ) (g : ℕ) → g < length marks → mark_of marks g ≡ Unvisited → work lists (set marks g OnPath) looked (path ++ g ∷ []) < work lists marks looked path
work-entered lists marks looked path g within new =
    let lighter : sum_by weight (set marks g OnPath) + 2 ≡ sum_by weight marks = weight-entered marks g within new in
    let long : length (path ++ g ∷ []) ≡ length path + 1 = length_push path g in
    omega arith

-- ---- a search that has met all nodes

module _ (lists : List (List ℕ)) (marks : List Mark) (looked : List ℕ) (is : IsSearch lists marks looked []) (met : (n : ℕ) → n < length lists → mark_of marks n ≢ Unvisited) where
  known : (n : ℕ) (b : Bool) → slice_get (map is_reaching marks) n ≡ Some b → (n < length lists) × (is_reaching (mark_of marks n) ≡ b)
  known n b at =
      let within : n < length (map is_reaching marks) = slice_get_within (map is_reaching marks) n b at in
      let also : n < length marks = omega (arith, length-map marks is_reaching) in
      let e : Some (is_reaching (mark_of marks n)) ≡ Some b = sym (slice_get-map is_reaching marks n ∙ ap (option_map is_reaching) (slice_get-get_or marks n Unvisited also)) ∙ at in
      (omega (arith, is.marks_len), same_Some (is_reaching (mark_of marks n)) b e)

  by_mark : (n : ℕ) (m : Mark) → m ≢ Unvisited → MarkMeans (next_of lists) [] n m → ((is_reaching m ≡ true) → ReachesCycle (next_of lists) n) × ((is_reaching m ≡ false) → ¬ (ReachesCycle (next_of lists) n))
  by_mark n Unvisited new means = absurd (new refl)
  by_mark n OnPath new means = absurd (omega (arith, means.1))
  by_mark n Acyclic new means = (λ e. absurd (false≢true e), λ e. settled_reaches_no_cycle (next_of lists) n means)
  by_mark n Cyclic new means = (λ e. means, λ e. absurd (false≢true (sym e)))

  pub found_reaching : (n : ℕ) → slice_get (map is_reaching marks) n ≡ Some true → ReachesCycle (next_of lists) n
  found_reaching n at = let k = known n true at in (by_mark n (mark_of marks n) (met n k.0) (is.means n)).0 k.1

  pub found_settled : (n : ℕ) → slice_get (map is_reaching marks) n ≡ Some false → ¬ (ReachesCycle (next_of lists) n)
  found_settled n at = let k = known n false at in (by_mark n (mark_of marks n) (met n k.0) (is.means n)).1 k.1
