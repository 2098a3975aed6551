-- Free. What is known of steps before states are expanded.
--     reached_more, found_reached           what is in a node, also when there are more of them
--     ahead_more                            what is known when nodes are reached is so when there
--                                           are more
--     ahead_count, ahead_at, ahead_push, ahead_front     of some states
--     looked_none, looked_more, looked_all  the outcomes of a step, looked at one after the other
--     ahead_expands                         if all that is found is known, each step leads on to
--                                           what is known
use Rattle.std.proofs.Common.{◌≡◌, ℕ, zero, suc, ◌<◌, ◌≤◌, ◌+◌, Bool, List, [], ◌∷◌, ◌++◌, ◌⊎◌, length, take, get_or, inl, inr, refl, sym, ap, subst, arith}
use Rattle.std.specs.Prelude.{slice_get, Option, Some, None, IfSome}
use Rattle.asm_state.specs.Location.{State}
use Rattle.asm_state.specs.Signature.{Shape, state_of}
use Rattle.asm_state.specs.declared.value.Value.{Value}
use Rattle.asm_meaning.specs.Run.{Specification}
use Rattle.asm_meaning.specs.Yields.{Result}
use Rattle.asm_explore.specs.declared.step_ahead.StepAhead.{StepAhead}
use Rattle.asm_explore.specs.declared.outcomes.listed_outcome.ListedOutcome.{ListedOutcome}
use Rattle.asm_explore.specs.code.StepsAhead.{IsReached, IsFound, IsAhead, AreAhead}
use Rattle.asm_explore.specs.code.PackedNodes.{Node}
use Rattle.asm_explore.specs.code.OutcomeLists.{Situation, Each, AnyOf, Shows, Shown}
use Rattle.asm_explore.specs.code.ReachedStates.{Extends, Known, MayLead, LeadsTo, steps_from, state_at}
use Rattle.asm_explore.specs.Search.{LeadsOn}
use Rattle.asm_explore.proofs.OutcomeLemmas.ListLemmas.{any_first, any_take_more, each_weaker}
use Rattle.asm_explore.proofs.StateLemmas.MoreNodes.{known_more}
use Rattle.std.proofs.lemmas.List.{take_all}

-- ---- nodes

any_there : {X : Type 0} (P : X → Type 0) (xs : List X) (i : ℕ) (x : X) → slice_get xs i ≡ Some x → P x → AnyOf P xs
any_there P [] i x there h = cc
any_there P (y ∷ ys) zero x there h = let same : y ≡ x = cc in inl (subst P (sym same) h)
any_there P (y ∷ ys) (suc i) x there h = inr (any_there P ys i x there h)

any_placed : {X : Type 0} (P : X → Type 0) (xs : List X) → AnyOf P xs → (i : ℕ) × (x : X) × (slice_get xs i ≡ Some x) × P x
any_placed P [] h = absurd h
any_placed P (y ∷ ys) (inl h) = (0, y, refl, h)
any_placed P (y ∷ ys) (inr h) = let later = any_placed P ys h in (suc later.0, later.1, later.2, later.3)

-- one of a list for each of which something else holds
any_each : {X : Type 0} (P Q : X → Type 0) (R : Type 0) → ((x : X) → P x → Q x → R) → (xs : List X) → AnyOf P xs → Each Q xs → R
any_each P Q R f [] h g = absurd h
any_each P Q R f (x ∷ xs) (inl h) g = f x h g.0
any_each P Q R f (x ∷ xs) (inr h) g = any_each P Q R f xs h g.1

leads_weaker : (r : Result) (A : State) (known more : State → Type 0) → ((B : State) → known B → more B) → LeadsOn r A known → LeadsOn r A more
leads_weaker r A known more f leads = record { set = leads.set; gives = leads.gives; consistent = leads.consistent; leads = f _ leads.leads }

module _ (shape : Shape) where
  pub reached_more : (old new : List Node) (B : State) → ((i : ℕ) (n : Node) → slice_get old i ≡ Some n → slice_get new i ≡ Some n) → IsReached shape old B → IsReached shape new B
  reached_more old new B same there =
      let one = any_placed (λ n. state_at shape n ≡ B) old there in
      any_there (λ n. state_at shape n ≡ B) new one.0 one.1 (same one.0 one.1 one.2) one.3

  pub found_reached : (nodes : List Node) (contents : List Value) → AnyOf (λ n. n.state ≡ contents) nodes → IsReached shape nodes (state_of shape contents)
  found_reached [] contents there = absurd there
  found_reached (n ∷ nodes) contents (inl is) = inl (ap (state_of shape) is)
  found_reached (n ∷ nodes) contents (inr there) = inr (found_reached nodes contents there)

  pub reached_known : (nodes : List Node) (below : ℕ) (B : State) → Each (λ n. n.depth ≤ below) nodes → IsReached shape nodes B → Known shape nodes below B
  reached_known [] below B low there = absurd there
  reached_known (n ∷ nodes) below B low (inl is) = inl (low.0, is)
  reached_known (n ∷ nodes) below B low (inr there) = inr (reached_known nodes below B low.1 there)

-- ---- the outcomes of a step

module _ (shape : Shape) (A : State) (nodes : List Node) (outcomes : List ListedOutcome) where
  -- what they lead on to is reached, or found
  abbrev pub Leads : List Node → List ListedOutcome → Type 0
  Leads found fs = (r : Result) → Shown shape fs r → LeadsOn r A (λ B. IsReached shape nodes B ⊎ IsReached shape found B)

  pub looked_none : (found : List Node) → Leads found (take 0 outcomes)
  looked_none found = λ r h. absurd h

  pub looked_more : (k : ℕ) (one : ListedOutcome) (old new more : List Node) → k < length outcomes → one ≡ get_or outcomes k one → new ≡ old ++ more
      → ((r : Result) → Shows shape one.answer r → LeadsOn r A (λ B. IsReached shape nodes B ⊎ IsReached shape new B))
      → Leads old (take k outcomes) → Leads new (take (k + 1) outcomes)
  looked_more k one old new more low is longer leads so_far = λ r h. by_place r (any_take_more (λ f. Shows shape f.answer r) outcomes k one low is h)
    where
      also : (B : State) → IsReached shape nodes B ⊎ IsReached shape old B → IsReached shape nodes B ⊎ IsReached shape new B
      also B (inl h) = inl h
      also B (inr h) = inr (subst (λ ns. IsReached shape ns B) (sym longer) (any_first (λ n. state_at shape n ≡ B) old more h))

      by_place : (r : Result) → Shown shape (take k outcomes) r ⊎ Shows shape one.answer r → LeadsOn r A (λ B. IsReached shape nodes B ⊎ IsReached shape new B)
      by_place r (inl h) = leads_weaker r A (λ B. IsReached shape nodes B ⊎ IsReached shape old B) (λ B. IsReached shape nodes B ⊎ IsReached shape new B) also (so_far r h)
      by_place r (inr h) = leads r h

  pub looked_all : (k : ℕ) (found : List Node) → length outcomes ≤ k → Leads found (take k outcomes) → Leads found outcomes
  looked_all k found past = subst (Leads found) (take_all k outcomes past)

-- ---- what is known of a step

module _ (shape : Shape) (specification : Specification) (turns : ℕ) where
  pub ahead_more : (old new : List Node) (A : State) (r : Option StepAhead) → ((i : ℕ) (n : Node) → slice_get old i ≡ Some n → slice_get new i ≡ Some n)
      → IfSome r (IsAhead shape specification turns old A) → IfSome r (IsAhead shape specification turns new A)
  ahead_more old new A None same h = tt
  ahead_more old new A (Some a) same h = record {
    found = h.found;
    leads = λ s.
        leads_weaker (steps_from specification turns A s) A (λ B. IsReached shape old B ⊎ IsReached shape a.states B) (λ B. IsReached shape new B ⊎ IsReached shape a.states B) also (h.leads s);
    quiet = h.quiet;
  }
    where
      also : (B : State) → IsReached shape old B ⊎ IsReached shape a.states B → IsReached shape new B ⊎ IsReached shape a.states B
      also B (inl h) = inl (reached_more shape old new B same h)
      also B (inr h) = inr h

  module _ (right : State → Bool) (old new : List Node) (below : ℕ) (extends : Extends shape specification turns right below old new) (near : Each (λ n. n.depth ≤ below) old) where
    pub ahead_expands : (A : State) (a : StepAhead) → IsAhead shape specification turns old A a → Each (λ m. Known shape new below (state_at shape m)) a.states
        → (s : Situation) → LeadsOn (steps_from specification turns A s) A (Known shape new below)
    ahead_expands A a ahead known s =
        leads_weaker (steps_from specification turns A s) A (λ B. IsReached shape old B ⊎ IsReached shape a.states B) (Known shape new below) also (ahead.leads s)
      where
        also : (B : State) → IsReached shape old B ⊎ IsReached shape a.states B → Known shape new below B
        also B (inl h) = known_more shape specification turns right below old new extends below B (reached_known shape old below B near h)
        also B (inr h) =
            any_each (λ m. state_at shape m ≡ B) (λ m. Known shape new below (state_at shape m)) (Known shape new below B) (λ m is there. subst (Known shape new below) is there) a.states h known

  -- ---- of some states

  module _ (nodes : List Node) where
    pub ahead_count : (As : List (List Value)) (rs : List (Option StepAhead)) → AreAhead shape specification turns nodes As rs → length rs ≡ length As
    ahead_count [] [] h = refl
    ahead_count [] (r ∷ rs) h = absurd h
    ahead_count (A ∷ As) [] h = absurd h
    ahead_count (A ∷ As) (r ∷ rs) h = ap suc (ahead_count As rs h.1)

    pub ahead_at : (As : List (List Value)) (rs : List (Option StepAhead)) (k : ℕ) (A : List Value) (r : Option StepAhead)
        → AreAhead shape specification turns nodes As rs → k < length As → A ≡ get_or As k A → r ≡ get_or rs k r
        → IfSome r (IsAhead shape specification turns nodes (state_of shape A))
    ahead_at [] rs k A r h low is listed = absurd (omega (arith, low))
    ahead_at (B ∷ As) [] k A r h low is listed = absurd h
    ahead_at (B ∷ As) (q ∷ rs) zero A r h low is listed =
        subst (λ o. IfSome o (IsAhead shape specification turns nodes (state_of shape A))) (sym listed)
        (subst (λ C. IfSome q (IsAhead shape specification turns nodes (state_of shape C))) (sym is) h.0)
    ahead_at (B ∷ As) (q ∷ rs) (suc k) A r h low is listed = ahead_at As rs k A r h.1 (omega (arith, low)) is listed

    -- nothing is known of one more state
    pub ahead_push : (As : List (List Value)) (rs : List (Option StepAhead)) (A : List Value) → AreAhead shape specification turns nodes As rs
        → AreAhead shape specification turns nodes (As ++ A ∷ []) (rs ++ None ∷ [])
    ahead_push [] [] A h = (tt, tt)
    ahead_push [] (q ∷ rs) A h = absurd h
    ahead_push (B ∷ As) [] A h = absurd h
    ahead_push (B ∷ As) (q ∷ rs) A h = (h.0, ahead_push As rs A h.1)

    pub ahead_front : (k : ℕ) (As : List (List Value)) (rs : List (Option StepAhead)) → AreAhead shape specification turns nodes (take k As) rs
        → AreAhead shape specification turns nodes (take (length rs) As) rs
    ahead_front zero As [] h = tt
    ahead_front zero As (r ∷ rs) h = absurd h
    ahead_front (suc k) As [] h = tt
    ahead_front (suc k) [] (r ∷ rs) h = absurd h
    ahead_front (suc k) (A ∷ As) (r ∷ rs) h = (h.0, ahead_front k As rs h.1)

-- ---- what is found, as nodes

module _ (shape : Shape) (specification : Specification) (turns : ℕ) (old : List Node) (from below : ℕ) (A : State) where
  -- a step from a node leads to it
  pub found_led : ((n : Node) → slice_get old from ≡ Some n → (below ≡ n.depth + 1) × (state_at shape n ≡ A)) → (found : List Node)
      → Each (IsFound shape specification turns A) found → Each (λ m. LeadsTo shape specification turns old from below (state_at shape m)) found
  found_led at found h =
      each_weaker (IsFound shape specification turns A) (λ m. LeadsTo shape specification turns old from below (state_at shape m))
      (λ m is n there.
      let here = at n there in
      (here.0, subst (λ B. MayLead shape specification turns B (state_at shape m)) (sym here.1) is.1))
      found h
