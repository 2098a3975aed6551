-- Free. Nodes, as more of them are reached.
--     extends_none, extends_one, extends_both     nodes with none after them, with one, and with
--                                                 more twice
--     known_more, good_more, leads_more           what is known of nodes stays so
--     found_known                                 a state that is in a node is known
--     set_leads, follows_none, follows_more, follows_all
--                              the outcomes of a step, followed one after the other
--     looked_*                                    nodes, expanded one after the other
--     search_covers, holds_before, holds_with     a whole search covers what runs come to
--     closure_covers, holds_always                so does one that is closed, however many steps
--                                                 they have
use Rattle.std.proofs.Common.{◌≡◌, ℕ, zero, suc, ◌+◌, ◌<◌, ◌≤◌, Bool, true, List, [], ◌∷◌, ◌++◌, length, take, drop, get_or, ◌⊎◌, inl, inr, refl, sym, ap, subst, ◌∙◌, arith, append_assoc, append-nil}
use Rattle.std.specs.Prelude.{slice_get, Option, Some, None, IfNone}
use Rattle.std.proofs.lemmas.Bool.{cases_lt}
use Rattle.std.proofs.lemmas.List.{take_all, take_more, take-append-le, take-append-drop}
use Rattle.std.proofs.lemmas.Option.{get_or_from_slice_get, slice_get_within, slice_get-get_or}
use Rattle.asm_state.specs.declared.value.Value.{Value as Contents}
use Rattle.asm_state.specs.Location.{State}
use Rattle.asm_state.specs.Signature.{Shape, count_of, state_of}
use Rattle.asm_state.specs.Updates.{UpdateSet, IsConsistent, fire}
use Rattle.asm_updates.specs.code.Stands.{Stands}
use Rattle.asm_meaning.specs.Run.{Specification, run}
use Rattle.asm_meaning.specs.Yields.{Path, Result, Gives, Exhausted}
use Rattle.asm_explore.specs.declared.outcomes.listed_outcome.RuleResult.TheVariants as answer
use Rattle.asm_explore.specs.declared.outcomes.listed_outcome.Choice.{Choice}
use Rattle.asm_explore.specs.declared.outcomes.listed_outcome.ListedOutcome.{ListedOutcome}
use Rattle.asm_explore.specs.code.PackedNodes.{Node}
use Rattle.asm_explore.specs.declared.updates.Updates.{Updates}
use Rattle.asm_explore.specs.declared.fault.Fault.{Fault}
use Rattle.asm_explore.specs.code.OutcomeLists.{Situation, Each, AnyOf, Shows, Shown}
use Rattle.asm_explore.specs.code.ReachedStates.{AreBegun, AreInside, ComesFrom, steps_from, state_at, Known, Rises, IsNear, IsGood, Extends, FollowsStep, Expanded, IsLinked, IsLooked, IsOutcome, IsBadStep, LeadsTo, IsSearched}
use Rattle.asm_explore.specs.Search.{LeadsOn, IsSafeUpTo, IsSafe, HoldsBefore, HoldsAlways}
use Rattle.asm_explore.proofs.OutcomeLemmas.ListLemmas.{each_append, each_at, each_weaker, any_first, any_last, any_weaker, any_take_more}
use Rattle.asm_explore.proofs.StateLemmas.RunsThroughKnown.{layers_are_safe, closure_is_safe}

pub some_at : (nodes : List Node) (i : ℕ) → i < length nodes → (n : Node) × (slice_get nodes i ≡ Some n)
some_at [] i low = absurd (omega (arith, low))
some_at (m ∷ nodes) i low = (get_or (m ∷ nodes) i m, slice_get-get_or (m ∷ nodes) i m low)

pub slice_first : (xs ys : List Node) (i : ℕ) (n : Node) → slice_get xs i ≡ Some n → slice_get (xs ++ ys) i ≡ Some n
slice_first [] ys i n is = cc
slice_first (x ∷ xs) ys zero n is = is
slice_first (x ∷ xs) ys (suc i) n is = slice_first xs ys i n is

pub each_got : {X : Type 0} (P : X → Type 0) (xs : List X) (i : ℕ) (x : X) → Each P xs → slice_get xs i ≡ Some x → P x
each_got P xs i x h there = each_at P xs i x (slice_get_within xs i x there) (sym (get_or_from_slice_get xs i x x there)) h

-- what is in two lists is in the one or in the other
pub slice_split : (xs ys : List Node) (i : ℕ) (n : Node) → slice_get (xs ++ ys) i ≡ Some n
    → (slice_get xs i ≡ Some n) ⊎ ((k : ℕ) × (i ≡ length xs + k) × (slice_get ys k ≡ Some n))
slice_split [] ys i n is = inr (i, omega arith, is)
slice_split (x ∷ xs) ys zero n is = inl is
slice_split (x ∷ xs) ys (suc i) n is = later (slice_split xs ys i n is)
  where
    later : (slice_get xs i ≡ Some n) ⊎ ((k : ℕ) × (i ≡ length xs + k) × (slice_get ys k ≡ Some n))
        → (slice_get (x ∷ xs) (suc i) ≡ Some n) ⊎ ((k : ℕ) × (suc i ≡ length (x ∷ xs) + k) × (slice_get ys k ≡ Some n))
    later (inl h) = inl h
    later (inr h) = inr (h.0, omega (arith, h.1), h.2)

-- what a node comes from stays where it is
pub linked_more : (shape : Shape) (specification : Specification) (turns : ℕ) (old new more : List Node) (n : Node) → new ≡ old ++ more
    → IsLinked shape specification turns old n → IsLinked shape specification turns new n
linked_more shape specification turns old new more n is (inl first) = inl first
linked_more shape specification turns old new more n is (inr comes) = inr (record {
  earlier = comes.earlier;
  there = subst (λ ns. slice_get ns n.from ≡ Some comes.earlier) (sym is) (slice_first old more n.from comes.earlier comes.there);
  deeper = comes.deeper;
  leads = comes.leads;
})

module _ (shape : Shape) (specification : Specification) (turns : ℕ) (right : State → Bool) (below : ℕ) where
  pub extends_none : (old : List Node) → Extends shape specification turns right below old old
  extends_none old = record { more = []; is = sym (append-nil old); good = tt; linked = tt; deep = tt }

  pub extends_one : (old new : List Node) (n : Node) → new ≡ old ++ n ∷ [] → IsGood shape right n → IsLinked shape specification turns old n → n.depth ≡ below
      → Extends shape specification turns right below old new
  extends_one old new n is good linked deep =
      record { more = n ∷ []; is = is; good = (good, tt); linked = (linked_more shape specification turns old new (n ∷ []) n is linked, tt); deep = (deep, tt) }

  pub extends_both : (old mid new : List Node) → Extends shape specification turns right below old mid → Extends shape specification turns right below mid new
      → Extends shape specification turns right below old new
  extends_both old mid new first then = record {
    more = first.more ++ then.more;
    is = then.is ∙ ap (λ ns. ns ++ then.more) first.is ∙ append_assoc old first.more then.more;
    good = each_append (IsGood shape right) first.more then.more first.good then.good;
    linked = each_append (IsLinked shape specification turns new) first.more then.more
        (each_weaker (IsLinked shape specification turns mid) (IsLinked shape specification turns new)
        (λ n. linked_more shape specification turns mid new then.more n then.is) first.more first.linked) then.linked;
    deep = each_append (λ n. n.depth ≡ below) first.more then.more first.deep then.deep;
  }

  module _ (old new : List Node) (extends : Extends shape specification turns right below old new) where
    pub good_more : Each (IsGood shape right) old → Each (IsGood shape right) new
    good_more h = subst (Each (IsGood shape right)) (sym extends.is) (each_append (IsGood shape right) old extends.more h extends.good)

    pub known_more : (d : ℕ) (A : State) → Known shape old d A → Known shape new d A
    known_more d A h =
        subst (λ ns. Known shape ns d A) (sym extends.is) (any_first (λ n. (n.depth ≤ d) × (state_at shape n ≡ A)) old extends.more h)

    pub leads_more : (r : Result) (A : State) (d : ℕ) → LeadsOn r A (Known shape old d) → LeadsOn r A (Known shape new d)
    leads_more r A d h = record { set = h.set; gives = h.gives; consistent = h.consistent; leads = known_more d (fire A h.set) h.leads }

    pub at_more : (i : ℕ) (n : Node) → slice_get old i ≡ Some n → slice_get new i ≡ Some n
    at_more i n is = subst (λ ns. slice_get ns i ≡ Some n) (sym extends.is) (slice_first old extends.more i n is)

    pub at_less : (i : ℕ) (n : Node) → i < length old → slice_get new i ≡ Some n → slice_get old i ≡ Some n
    at_less i n low is =
        let one = some_at old i low in
        one.1 ∙ (sym (at_more i one.0 one.1) ∙ is)

    pub outcome_more : (from : ℕ) (f : ListedOutcome) → from < length old → IsOutcome shape specification turns old from below f → IsOutcome shape specification turns new from below f
    outcome_more from f low h n there = h n (at_less from n low there)

    pub linked_both : Each (IsLinked shape specification turns old) old → Each (IsLinked shape specification turns new) new
    linked_both h = subst (Each (IsLinked shape specification turns new)) (sym extends.is)
        (each_append (IsLinked shape specification turns new) old extends.more
        (each_weaker (IsLinked shape specification turns old) (IsLinked shape specification turns new) (λ n. linked_more shape specification turns old new extends.more n extends.is) old h)
        extends.linked)

    pub bad_step_less : (rests : State → Bool) (from : ℕ) (choices : List Choice) (fault : Fault) → from < length old
        → IsBadStep shape specification turns right rests new from choices fault → IsBadStep shape specification turns right rests old from choices fault
    bad_step_less rests from choices fault low h n there = h n (at_more from n there)

    pub long_more : length old ≤ length new
    long_more =
        let long : length new ≡ length (old ++ extends.more) = ap length extends.is in
        omega (arith, long, longer old extends.more)
      where
        longer : (xs ys : List Node) → length xs ≤ length (xs ++ ys)
        longer [] ys = omega arith
        longer (x ∷ xs) ys = omega (arith, longer xs ys)

    -- none of them is deeper
    pub shallow_more : Each (λ n. n.depth ≤ below) old → Each (λ n. n.depth ≤ below) new
    shallow_more h =
        subst (Each (λ n. n.depth ≤ below)) (sym extends.is)
        (each_append (λ n. n.depth ≤ below) old extends.more h (each_weaker (λ n. n.depth ≡ below) (λ n. n.depth ≤ below) (λ n is. omega (arith, is)) extends.more extends.deep))

    -- they stay in order
    pub rises_more : Rises old → Each (λ n. n.depth ≤ below) old → Rises new
    rises_more h low i j m n upto there then =
        by_place (slice_split old extends.more i m (subst (λ ns. slice_get ns i ≡ Some m) extends.is there))
        (slice_split old extends.more j n (subst (λ ns. slice_get ns j ≡ Some n) extends.is then))
      where
        by_place : (slice_get old i ≡ Some m) ⊎ ((k : ℕ) × (i ≡ length old + k) × (slice_get extends.more k ≡ Some m))
            → (slice_get old j ≡ Some n) ⊎ ((k : ℕ) × (j ≡ length old + k) × (slice_get extends.more k ≡ Some n)) → m.depth ≤ n.depth
        by_place (inl a) (inl b) = h i j m n upto a b
        by_place (inl a) (inr b) =
            let shallow = each_got (λ n. n.depth ≤ below) old i m low a in
            let deep = each_got (λ n. n.depth ≡ below) extends.more b.0 n extends.deep b.2 in
            omega (arith, shallow, deep)
        by_place (inr a) (inl b) = absurd (omega (arith, upto, a.1, slice_get_within old j n b))
        by_place (inr a) (inr b) =
            let one = each_got (λ n. n.depth ≡ below) extends.more a.0 m extends.deep a.2 in
            let other = each_got (λ n. n.depth ≡ below) extends.more b.0 n extends.deep b.2 in
            omega (arith, one, other)

  -- a step's state, as a node
  pub comes_from : (old : List Node) (from : ℕ) (n : Node) → from < length old → n.from ≡ from → n.depth ≡ below
      → LeadsTo shape specification turns old from below (state_at shape n) → ComesFrom shape specification turns old n
  comes_from old from n low at deep leads =
      let one = some_at old from low in
      let steps = leads one.0 one.1 in
      record {
        earlier = one.0;
        there = ap (slice_get old) at ∙ one.1;
        deeper = deep ∙ steps.0;
        leads = steps.1;
      }

-- ---- nodes that come from one

pub begun_none : (from : ℕ) (nodes : List Node) → AreBegun from nodes nodes
begun_none from nodes j k past there = absurd (omega (arith, past, slice_get_within nodes j k there))

pub begun_one : (from : ℕ) (old new : List Node) (n : Node) → new ≡ old ++ n ∷ [] → n.from ≡ from → AreBegun from old new
begun_one from old new n is at j k past there = by_place (slice_split old (n ∷ []) j k (subst (λ ns. slice_get ns j ≡ Some k) is there))
  where
    by_place : (slice_get old j ≡ Some k) ⊎ ((i : ℕ) × (j ≡ length old + i) × (slice_get (n ∷ []) i ≡ Some k)) → k.from ≡ from
    by_place (inl there) = absurd (omega (arith, past, slice_get_within old j k there))
    by_place (inr (zero, same, there)) = let one : n ≡ k = cc in ap (λ (m : Node). m.from) (sym one) ∙ at
    by_place (inr (suc i, same, there)) = cc

module _ (shape : Shape) (specification : Specification) (turns : ℕ) (right : State → Bool) (below : ℕ) where
  pub begun_both : (from : ℕ) (old mid new : List Node) → Extends shape specification turns right below mid new → AreBegun from old mid → AreBegun from mid new → AreBegun from old new
  begun_both from old mid new extends first then j k past there =
      elim (cases_lt j (length mid)) [
        | inl low ↦ first j k past (at_less shape specification turns right below mid new extends j k low there)
        | inr beyond ↦ then j k beyond there
      ]

-- a state that is in a node, if none is too deep
pub found_known : (shape : Shape) (nodes : List Node) (contents : List Contents) (below : ℕ) → Each (λ n. n.depth ≤ below) nodes
    → AnyOf (λ n. n.state ≡ contents) nodes → Known shape nodes below (state_of shape contents)
found_known shape [] contents below low there = absurd there
found_known shape (n ∷ nodes) contents below low (inl is) = inl (low.0, ap (state_of shape) is)
found_known shape (n ∷ nodes) contents below low (inr there) = inr (found_known shape nodes contents below low.1 there)

-- the last node is known
pub pushed_known : (shape : Shape) (old new : List Node) (n : Node) (below : ℕ) → new ≡ old ++ n ∷ [] → n.depth ≤ below → Known shape new below (state_at shape n)
pushed_known shape old new n below is low =
    subst (λ ns. Known shape ns below (state_at shape n)) (sym is) (any_last (λ m. (m.depth ≤ below) × (state_at shape m ≡ state_at shape n)) old (n ∷ []) (inl (low, refl)))

pub whole_nodes : (shape : Shape) (right : State → Bool) (nodes : List Node) → Each (IsGood shape right) nodes → Each (λ n. length n.state ≡ count_of shape) nodes
whole_nodes shape right = each_weaker (IsGood shape right) (λ n. length n.state ≡ count_of shape) (λ n good. good.kept.whole)

-- ---- the outcomes of a step

-- a set that is without fault leads on to the state in which it has been fired
pub set_leads : (shape : Shape) (set : Updates) (one : ListedOutcome) (A : State) (next : List Contents) (r : Result) (known : State → Type 0)
    → one.answer ≡ answer.Set set → Shows shape one.answer r → ((U : UpdateSet) → Stands shape set.set U → IsConsistent U)
    → ((U : UpdateSet) → Stands shape set.set U → IsConsistent U → state_of shape next ≡ fire A U) → known (state_of shape next)
    → LeadsOn r A known
set_leads shape set one A next r known is shows consistent fired here = by_result r (subst (λ a. Shows shape a r) is shows)
  where
    by_result : (r : Result) → Shows shape (answer.Set set) r → LeadsOn r A known
    by_result (Gives U) stands = record {
      set = U;
      gives = refl;
      consistent = consistent U stands;
      leads = subst known (fired U stands (consistent U stands)) here;
    }
    by_result (Exhausted q) stands = absurd stands

-- a result that is a set stands for one
pub set_stands : (shape : Shape) (set : Updates) (one : ListedOutcome) (r : Result) → one.answer ≡ answer.Set set → Shows shape one.answer r → (U : UpdateSet) × Stands shape set.set U
set_stands shape set one r is shows = by_result r (subst (λ a. Shows shape a r) is shows)
  where
    by_result : (r : Result) → Shows shape (answer.Set set) r → (U : UpdateSet) × Stands shape set.set U
    by_result (Gives U) stands = (U, stands)
    by_result (Exhausted q) stands = absurd stands

-- one that has a fault
pub set_wrong : (shape : Shape) (set : Updates) (one : ListedOutcome) (r : Result)
    → one.answer ≡ answer.Set set → Shows shape one.answer r → ((U : UpdateSet) → Stands shape set.set U → ¬ (IsConsistent U))
    → (U : UpdateSet) × (r ≡ Gives U) × ¬ (IsConsistent U)
set_wrong shape set one r is shows faulty = by_result r (subst (λ a. Shows shape a r) is shows)
  where
    by_result : (r : Result) → Shows shape (answer.Set set) r → (U : UpdateSet) × (r ≡ Gives U) × ¬ (IsConsistent U)
    by_result (Gives U) stands = (U, refl, faulty U stands)
    by_result (Exhausted q) stands = absurd stands

-- no set
pub path_wrong : (shape : Shape) (p : Path) (one : ListedOutcome) (r : Result) → one.answer ≡ answer.Exhausted p → Shows shape one.answer r → (q : Path) × (r ≡ Exhausted q)
path_wrong shape p one r is shows = by_result r (subst (λ a. Shows shape a r) is shows)
  where
    by_result : (r : Result) → Shows shape (answer.Exhausted p) r → (q : Path) × (r ≡ Exhausted q)
    by_result (Gives U) h = absurd h
    by_result (Exhausted q) h = (q, refl)

module _ (shape : Shape) (specification : Specification) (turns : ℕ) (right : State → Bool) (old : List Node) (from below : ℕ) (outcomes : List ListedOutcome) where
  pub follows_none : (new : List Node) → FollowsStep shape old new from below (take 0 outcomes)
  follows_none new = λ n r is h. absurd h

  pub follows_more : (k : ℕ) (one : ListedOutcome) (mid new : List Node) → k < length outcomes → one ≡ get_or outcomes k one → Extends shape specification turns right below old mid → Extends shape specification turns right below mid new
      → ((n : Node) (r : Result) → slice_get mid from ≡ Some n → Shows shape one.answer r → LeadsOn r (state_at shape n) (Known shape new below))
      → FollowsStep shape old mid from below (take k outcomes) → FollowsStep shape old new from below (take (k + 1) outcomes)
  follows_more k one mid new low is first then leads so_far = λ n r there h. by_place n r there (any_take_more (λ f. Shows shape f.answer r) outcomes k one low is h)
    where
      by_place : (n : Node) (r : Result) → slice_get old from ≡ Some n → Shown shape (take k outcomes) r ⊎ Shows shape one.answer r → LeadsOn r (state_at shape n) (Known shape new below)
      by_place n r there (inl h) = leads_more shape specification turns right below mid new then r (state_at shape n) below (so_far n r there h)
      by_place n r there (inr h) = leads n r (at_more shape specification turns right below old mid first from n there) h

  pub follows_all : (k : ℕ) (new : List Node) → length outcomes ≤ k → FollowsStep shape old new from below (take k outcomes) → FollowsStep shape old new from below outcomes
  follows_all k new past = subst (FollowsStep shape old new from below) (take_all k outcomes past)

pub both_of : {X : Type 0} (P Q : X → Type 0) (xs : List X) → Each P xs → AnyOf Q xs → (x : X) × P x × Q x
both_of P Q [] h any = absurd any
both_of P Q (x ∷ xs) h (inl q) = (x, h.0, q)
both_of P Q (x ∷ xs) h (inr any) = both_of P Q xs h.1 any

-- ---- nodes, expanded one after the other

pub only_node : (old nodes : List Node) (n : Node) → nodes ≡ old ++ n ∷ [] → old ≡ [] → nodes ≡ n ∷ []
only_node old nodes n is empty = is ∙ ap (λ l. l ++ n ∷ []) empty

module _ (shape : Shape) (specification : Specification) (turns : ℕ) (right within : State → Bool) (depth : ℕ) where
  abbrev IsDone : List Node → Node → Type 0
  IsDone nodes n = n.depth < depth → within (state_at shape n) ≡ true → Expanded shape specification turns nodes n

  done_more : (below : ℕ) (old new : List Node) → Extends shape specification turns right below old new → (n : Node) → IsDone old n → IsDone new n
  done_more below old new extends n done low inside s =
      leads_more shape specification turns right below old new extends (steps_from specification turns (state_at shape n) s) (state_at shape n) (n.depth + 1) (done low inside s)

  -- none is expanded of one alone
  pub looked_none : (nodes : List Node) (n : Node) → nodes ≡ n ∷ [] → IsGood shape right n → n.depth ≡ 0 → state_at shape n ≡ specification.initial
      → IsLooked shape specification turns right within depth 0 nodes
  looked_none nodes n is good deep first = subst (IsLooked shape specification turns right within depth 0) (sym is) (record {
    begins = inl (omega (arith, deep), first);
    good = (good, tt);
    linked = (inl (deep, first), tt);
    expanded = tt;
    rises = λ i j m o upto there then. alone i j m o upto there then;
    inside = λ j k m there deeper before. absurd (lowest j k there deeper);
  })
    where
      lowest : (j : ℕ) (k : Node) → slice_get (n ∷ []) j ≡ Some k → 0 < k.depth → ⊥
      lowest zero k there deeper = let is : n ≡ k = cc in let same = ap (λ (m : Node). m.depth) is in omega (arith, deep, deeper, same)
      lowest (suc j) k there deeper = cc

      alone : (i j : ℕ) (m o : Node) → i ≤ j → slice_get (n ∷ []) i ≡ Some m → slice_get (n ∷ []) j ≡ Some o → m.depth ≤ o.depth
      alone i zero m o upto there then = same i m o upto there then
        where
          same : (i : ℕ) (m o : Node) → i ≤ 0 → slice_get (n ∷ []) i ≡ Some m → slice_get (n ∷ []) 0 ≡ Some o → m.depth ≤ o.depth
          same zero m o upto there then = let is : m ≡ o = cc in let deep = ap (λ (n : Node). n.depth) is in omega (arith, deep)
          same (suc i) m o upto there then = absurd (omega (arith, upto))
      alone i (suc j) m o upto there then = cc

  pub near_none : (nodes : List Node) (n : Node) → nodes ≡ n ∷ [] → n.depth ≡ 0 → IsNear nodes 0
  near_none nodes n is deep m there = subst (Each (λ x. x.depth ≤ m.depth + 1)) (sym is) (omega (arith, deep), tt)

  -- the next one is as deep at least
  near_next : (i : ℕ) (n : Node) (nodes : List Node) → slice_get nodes i ≡ Some n → Rises nodes → Each (λ m. m.depth ≤ n.depth + 1) nodes → IsNear nodes (i + 1)
  near_next i n nodes there rises near m then =
      let up = rises i (i + 1) n m (omega arith) there then in
      each_weaker (λ x. x.depth ≤ n.depth + 1) (λ x. x.depth ≤ m.depth + 1) (λ x low. omega (arith, low, up)) nodes near

  -- those that come from a node that is within
  abbrev AreAdded : (i : ℕ) → Node → (old new : List Node) → Type 0
  AreAdded i n old new = (j : ℕ) (k : Node) → length old ≤ j → slice_get new j ≡ Some k → (k.from ≡ i) × (within (state_at shape n) ≡ true)

  inside_more : (i : ℕ) (n : Node) (below : ℕ) (old new : List Node) → slice_get old i ≡ Some n → Extends shape specification turns right below old new → AreAdded i n old new
      → Each (IsLinked shape specification turns old) old → AreInside shape specification turns within old → AreInside shape specification turns within new
  inside_more i n below old new there extends added linked inside j k m here deeper before =
      elim (cases_lt j (length old)) [
        | inl low ↦
            let was = at_less shape specification turns right below old new extends j k low here in
            by_link was (each_got (IsLinked shape specification turns old) old j k linked was)
        | inr beyond ↦
            let from = added j k beyond here in
            let at : slice_get new k.from ≡ Some n = ap (slice_get new) from.0 ∙ at_more shape specification turns right below old new extends i n there in
            subst (λ (x : Node). within (state_at shape x) ≡ true) (one_node n m (slice_get new k.from) at before) from.1
      ]
    where
      one_node : (n m : Node) (o : Option Node) → o ≡ Some n → o ≡ Some m → n ≡ m
      one_node n m o there here = cc

      by_link : slice_get old j ≡ Some k → IsLinked shape specification turns old k → within (state_at shape m) ≡ true
      by_link was (inl first) = absurd (omega (arith, deeper, first.0))
      by_link was (inr comes) =
          let at = at_more shape specification turns right below old new extends k.from comes.earlier comes.there in
          subst (λ (x : Node). within (state_at shape x) ≡ true) (one_node comes.earlier m (slice_get new k.from) at before) (inside j k comes.earlier was deeper comes.there)

  -- one more is
  pub looked_more : (i : ℕ) (n : Node) (below : ℕ) (old new : List Node) → slice_get old i ≡ Some n → below ≡ n.depth + 1 → Extends shape specification turns right below old new
      → (n.depth < depth → within (state_at shape n) ≡ true → Expanded shape specification turns new n) → AreAdded i n old new → IsNear old i
      → IsLooked shape specification turns right within depth i old → IsLooked shape specification turns right within depth (i + 1) new × IsNear new (i + 1)
  looked_more i n below old new there deeper extends here added near_there so_far =
      let low : i < length old = slice_get_within old i n there in
      let first : take (i + 1) new ≡ take i old ++ n ∷ [] =
      ap (take (i + 1)) extends.is ∙ take-append-le (i + 1) old extends.more (omega (arith, low)) ∙ take_more old i n low
      ∙ ap (λ m. take i old ++ m ∷ []) (get_or_from_slice_get old i n n there) in
      let near : Each (λ m. m.depth ≤ below) old = subst (λ b. Each (λ m. m.depth ≤ b) old) (sym deeper) (near_there n there) in
      let rises = rises_more shape specification turns right below old new extends so_far.rises near in (
        record {
          begins = known_more shape specification turns right below old new extends 0 specification.initial so_far.begins;
          good = good_more shape specification turns right below old new extends so_far.good;
          linked = linked_both shape specification turns right below old new extends so_far.linked;
          expanded = subst (Each (IsDone new)) (sym first)
              (each_append (IsDone new) (take i old) (n ∷ []) (each_weaker (IsDone old) (IsDone new) (done_more below old new extends) (take i old) so_far.expanded) (here, tt));
          rises = rises;
          inside = inside_more i n below old new there extends added so_far.linked so_far.inside;
        },
        near_next i n new (at_more shape specification turns right below old new extends i n there) rises
            (subst (λ b. Each (λ m. m.depth ≤ b) new) deeper (shallow_more shape specification turns right below old new extends near)),
      )

  -- there are more nodes
  pub looked_same : (i : ℕ) (n : Node) (below : ℕ) (old new : List Node) → slice_get old i ≡ Some n → below ≡ n.depth + 1 → Extends shape specification turns right below old new
      → AreAdded i n old new → IsNear old i → IsLooked shape specification turns right within depth i old → IsLooked shape specification turns right within depth i new
  looked_same i n below old new there deeper extends added near_there so_far =
      let low : i < length old = slice_get_within old i n there in
      let first : take i new ≡ take i old = ap (take i) extends.is ∙ take-append-le i old extends.more (omega (arith, low)) in
      let near : Each (λ m. m.depth ≤ below) old = subst (λ b. Each (λ m. m.depth ≤ b) old) (sym deeper) (near_there n there) in
      record {
        begins = known_more shape specification turns right below old new extends 0 specification.initial so_far.begins;
        good = good_more shape specification turns right below old new extends so_far.good;
        linked = linked_both shape specification turns right below old new extends so_far.linked;
        expanded = subst (Each (IsDone new)) (sym first) (each_weaker (IsDone old) (IsDone new) (done_more below old new extends) (take i old) so_far.expanded);
        rises = rises_more shape specification turns right below old new extends so_far.rises near;
        inside = inside_more i n below old new there extends added so_far.linked so_far.inside;
      }

  -- all are, and none is missing
  pub looked_done : (i : ℕ) (nodes : List Node) → length nodes ≤ i → IsLooked shape specification turns right within depth i nodes → IsSearched shape specification turns right within depth nodes
  looked_done i nodes past so_far = record {
    begins = so_far.begins;
    good = so_far.good;
    expanded = subst (Each (IsDone nodes)) (take_all i nodes past) so_far.expanded;
  }

  -- a depth that no node has which isn't expanded
  abbrev IsWhole : ℕ → List Node → Node → Type 0
  IsWhole whole nodes n = n.depth < whole → within (state_at shape n) ≡ true → Expanded shape specification turns nodes n

  pub looked_whole : (i whole : ℕ) (nodes : List Node) → whole ≤ depth → Each (λ n. whole ≤ n.depth) (drop i nodes)
      → IsLooked shape specification turns right within depth i nodes → IsSearched shape specification turns right within whole nodes
  looked_whole i whole nodes low rest so_far = record {
    begins = so_far.begins;
    good = so_far.good;
    expanded = subst (Each (IsWhole whole nodes)) (take-append-drop i nodes)
        (each_append (IsWhole whole nodes) (take i nodes) (drop i nodes)
        (each_weaker (IsDone nodes) (IsWhole whole nodes) (λ n done deep. done (omega (arith, deep, low))) (take i nodes) so_far.expanded)
        (each_weaker (λ n. whole ≤ n.depth) (IsWhole whole nodes) (λ n high deep inside. absurd (omega (arith, deep, high))) (drop i nodes) rest));
  }

  -- ---- what runs come to

  module _ (nodes : List Node) (searched : IsSearched shape specification turns right within depth nodes) where
    known_right : (d : ℕ) (A : State) → Known shape nodes d A → right A ≡ true
    known_right d A known =
        let one = both_of (IsGood shape right) (λ n. (n.depth ≤ d) × (state_at shape n ≡ A)) nodes searched.good known in
        sym (ap right one.2.1) ∙ one.1.is_right

    known_deeper : (d e : ℕ) (A : State) → d ≤ e → Known shape nodes d A → Known shape nodes e A
    known_deeper d e A low =
        any_weaker (λ n. (n.depth ≤ d) × (state_at shape n ≡ A)) (λ n. (n.depth ≤ e) × (state_at shape n ≡ A)) (λ n h. (omega (arith, h.0, low), h.1)) nodes

    known_leads : (d : ℕ) (A : State) → d < depth → Known shape nodes d A → within A ≡ true → (s : Situation) → LeadsOn (steps_from specification turns A s) A (Known shape nodes (suc d))
    known_leads d A low known inside s =
        let one = both_of (IsDone nodes) (λ n. (n.depth ≤ d) × (state_at shape n ≡ A)) nodes searched.expanded known in
        let here : LeadsOn (steps_from specification turns A s) A (Known shape nodes (one.0.depth + 1)) =
        subst (λ B. LeadsOn (steps_from specification turns B s) B (Known shape nodes (one.0.depth + 1))) one.2.1 (one.1 (omega (arith, one.2.0, low)) (ap within one.2.1 ∙ inside) s) in
        record {
          set = here.set;
          gives = here.gives;
          consistent = here.consistent;
          leads = known_deeper (one.0.depth + 1) (suc d) (fire A here.set) (omega (arith, one.2.0)) here.leads;
        }

    pub search_covers : IsSafeUpTo specification turns within (λ A. right A ≡ true) depth
    search_covers = layers_are_safe specification turns within (λ A. right A ≡ true) depth (Known shape nodes) (record {
      begins = searched.begins;
      right = λ d A within known. known_right d A known;
      goes_on = λ d A low known inside script step. known_leads d A low known inside (record { script = script; step = step });
    })

    -- what holds of the nodes that are less deep, and within, holds of each state that fewer steps
    -- lead to
    pub holds_before : (D : State → Type 0) → Each (λ n. n.depth < depth → within (state_at shape n) ≡ true → D (state_at shape n)) nodes → HoldsBefore specification turns within D depth
    holds_before D each script k low stays =
        let fine = layers_are_safe specification turns within (Known shape nodes k) k (Known shape nodes) (record {
          begins = searched.begins;
          right = λ d A shallow known. known_deeper d k A shallow known;
          goes_on = λ d A less known inside script step. known_leads d A (omega (arith, less, low)) known inside (record { script = script; step = step });
        }) script k (omega arith) (λ j less. stays j (omega (arith, less))) in
        let A = (run specification turns script k).last in
        let one = both_of (λ n. n.depth < depth → within (state_at shape n) ≡ true → D (state_at shape n)) (λ n. (n.depth ≤ k) × (state_at shape n ≡ A)) nodes each fine.1 in
        subst D one.2.1 (one.1 (omega (arith, one.2.0, low)) (ap within one.2.1 ∙ stays k (omega arith)))

    -- and what holds of those that are just so deep, too, holds of each state that at most so many
    -- steps lead to
    pub holds_with : (D : State → Type 0) → Each (λ n. n.depth ≤ depth → within (state_at shape n) ≡ true → D (state_at shape n)) nodes → HoldsBefore specification turns within D (suc depth)
    holds_with D each script k low stays =
        let fine = layers_are_safe specification turns within (Known shape nodes k) k (Known shape nodes) (record {
          begins = searched.begins;
          right = λ d A shallow known. known_deeper d k A shallow known;
          goes_on = λ d A less known inside script step. known_leads d A (omega (arith, less, low)) known inside (record { script = script; step = step });
        }) script k (omega arith) (λ j less. stays j (omega (arith, less))) in
        let A = (run specification turns script k).last in
        let one = both_of (λ n. n.depth ≤ depth → within (state_at shape n) ≡ true → D (state_at shape n)) (λ n. (n.depth ≤ k) × (state_at shape n ≡ A)) nodes each fine.1 in
        subst D one.2.1 (one.1 (omega (arith, one.2.0, low)) (ap within one.2.1 ∙ stays k (omega arith)))

-- ---- a search that is closed covers every depth

pub each_taken : {X : Type 0} (P : X → Type 0) (xs : List X) (i : ℕ) → length xs ≤ i → Each P (take i xs) → Each P xs
each_taken P xs i past = subst (Each P) (take_all i xs past)

pub each_taken_more : {X : Type 0} (P : X → Type 0) (xs : List X) (i : ℕ) (x : X) → i < length xs → x ≡ get_or xs i x → P x → Each P (take i xs) → Each P (take (i + 1) xs)
each_taken_more P xs i x low is here h =
    subst (Each P) (sym (take_more xs i x low)) (each_append P (take i xs) (get_or xs i x ∷ []) h (subst P is here, tt))

module _ (shape : Shape) (specification : Specification) (turns : ℕ) (right within : State → Bool) (depth : ℕ) (nodes : List Node)
    (searched : IsSearched shape specification turns right within depth nodes) (above : Each (λ n. n.depth < depth) nodes) where
  abbrev Reached : ℕ → State → Type 0
  Reached d A = AnyOf (λ n. state_at shape n ≡ A) nodes

  reached_right : (A : State) → Reached 0 A → right A ≡ true
  reached_right A known =
      let one = both_of (IsGood shape right) (λ n. state_at shape n ≡ A) nodes searched.good known in
      sym (ap right one.2) ∙ one.1.is_right

  both_each : {X : Type 0} (P Q : X → Type 0) (xs : List X) → Each P xs → Each Q xs → Each (λ x. P x × Q x) xs
  both_each P Q [] h g = tt
  both_each P Q (x ∷ xs) h g = ((h.0, g.0), both_each P Q xs h.1 g.1)

  reached_leads : (A : State) → Reached 0 A → within A ≡ true → (s : Situation) → LeadsOn (steps_from specification turns A s) A (Reached 0)
  reached_leads A known inside s =
      let one = both_of (λ n. (n.depth < depth → within (state_at shape n) ≡ true → Expanded shape specification turns nodes n) × (n.depth < depth)) (λ n. state_at shape n ≡ A) nodes
      (both_each (λ n. n.depth < depth → within (state_at shape n) ≡ true → Expanded shape specification turns nodes n) (λ n. n.depth < depth) nodes searched.expanded above) known in
      let here : LeadsOn (steps_from specification turns A s) A (Known shape nodes (one.0.depth + 1)) =
      subst (λ B. LeadsOn (steps_from specification turns B s) B (Known shape nodes (one.0.depth + 1))) one.2 (one.1.0 one.1.1 (ap within one.2 ∙ inside) s) in
      record {
        set = here.set;
        gives = here.gives;
        consistent = here.consistent;
        leads = any_weaker (λ n. (n.depth ≤ one.0.depth + 1) × (state_at shape n ≡ fire A here.set)) (λ n. state_at shape n ≡ fire A here.set) (λ n h. h.1) nodes here.leads;
      }

  pub closure_covers : IsSafe specification turns within (λ A. right A ≡ true)
  closure_covers = closure_is_safe specification turns within (λ A. right A ≡ true) Reached (λ d. record {
    begins = any_weaker (λ n. (n.depth ≤ 0) × (state_at shape n ≡ specification.initial)) (λ n. state_at shape n ≡ specification.initial) (λ n h. h.1) nodes searched.begins;
    right = λ e A within known. reached_right A known;
    goes_on = λ e A low known inside script step. reached_leads A known inside (record { script = script; step = step });
  })

  pub holds_always : (D : State → Type 0) → Each (λ n. n.depth < depth → within (state_at shape n) ≡ true → D (state_at shape n)) nodes → HoldsAlways specification turns within D
  holds_always D each script k stays =
      let fine = closure_is_safe specification turns within (Reached 0) Reached (λ d. record {
        begins = any_weaker (λ n. (n.depth ≤ 0) × (state_at shape n ≡ specification.initial)) (λ n. state_at shape n ≡ specification.initial) (λ n h. h.1) nodes searched.begins;
        right = λ e A shallow known. known;
        goes_on = λ e A low known inside script step. reached_leads A known inside (record { script = script; step = step });
      }) script k (λ j less. stays j (omega (arith, less))) in
      let A = (run specification turns script k).last in
      let one = both_of (λ n. (n.depth < depth → within (state_at shape n) ≡ true → D (state_at shape n)) × (n.depth < depth)) (λ n. state_at shape n ≡ A) nodes
      (both_each (λ n. n.depth < depth → within (state_at shape n) ≡ true → D (state_at shape n)) (λ n. n.depth < depth) nodes each above) fine.1 in
      subst D one.2 (one.1.0 one.1.1 (ap within one.2 ∙ stays k (omega arith)))

-- ---- options

pub if_none_weaker : {T : Type 0} {P Q : Type 0} (o : Option T) → (P → Q) → IfNone o P → IfNone o Q
if_none_weaker None f h = f h
if_none_weaker (Some x) f h = tt
