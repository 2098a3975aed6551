-- Free. What resolved rules yield in each situation, by what their parts do.
--     parts_left, each_left     what the parts, or the elements, from a number on yield beside each
--                               other
--     candidate_yields          what the body of a choose yields for one candidate
--     order_left, turns_left    what is left of parts, and of turns, one after the other
--     ok_same                   a call's promise, of a rule that yields the same
use Rattle.std.proofs.Common.{◌≡◌, ℕ, zero, suc, ◌+◌, ◌<◌, ◌≤◌, ◌%◌, Bool, true, false, cond, not, ◌||◌, List, [], ◌∷◌, length, map, filter, ◌++◌, take, drop, Option, Some, None, Vec, Global, ◌⊎◌, inl, inr, refl, sym, ap, subst, ◌∙◌, arith, get_or, add-one}
use Rattle.std.specs.Prelude.{slice_get, option_map, Result as Returned, IfOk}
use Rattle.std.proofs.Math.Nat.{mod-eq_of_lt}
use Rattle.std.proofs.lemmas.List.Elements.{filter_more}
use Rattle.std.proofs.lemmas.Nat.{mod_below}
use Rattle.std.proofs.lemmas.Option.{slice_get-get_or, slice_get_read, slice_get_within, get_or_from_slice_get}
use Rattle.asm_state.specs.declared.value.Value.{Value}
use Rattle.asm_state.specs.Location.{Location, State}
use Rattle.asm_state.specs.Signature.{Shape, count_of, location_at}
use Rattle.asm_state.specs.Updates.{UpdateSet, is_consistent, is_none, none, one, fire}
use Rattle.asm_meaning.specs.Does.{Outcome, nothing, following, part_and, turn_and}
use Rattle.asm_meaning.specs.Taken.{taken}
use Rattle.asm_meaning.specs.Targets.{update}
use Rattle.asm_meaning.specs.Value.{Reading, is_true}
use Rattle.asm_meaning.specs.Yields.{Path, at, Result, Gives, Exhausted, beside, after}
use Rattle.asm_code.specs.code.CodeViews.{code_of, codes_of}
use Rattle.asm_code.specs.code.Readings.{always, reading, universe_at}
use Rattle.asm_code.specs.code.RuleMeaning.{Locations, meaning, passes, target_location, result_locations}
use Rattle.asm_code.specs.code.RuleTree as tree
use Rattle.asm_code.specs.code.RuleViews.{target_code_of, rule_of, rules_of}
use Rattle.asm_code.specs.declared.code.Code.{Code}
use Rattle.asm_code.specs.declared.rule_code.TargetCode.{TargetCode}
use Rattle.asm_code.specs.declared.rule_code.RuleCode.{RuleCode}
use Rattle.asm_code.specs.declared.rule_code.RuleCode.TheVariants as code
use Rattle.asm_eval.specs.code.Frames.{readings_of, result_contents, by_name}
use Rattle.asm_eval.specs.code.Evaluation.{frame_locations, passing_in, optional_target_in, location_numbered}
use Rattle.asm_eval.specs.declared.frame.Frame.{Frame}
use Rattle.asm_explore.specs.declared.exploration.Exploration.{Exploration}
use Rattle.asm_explore.specs.declared.outcomes.listed_outcome.ListedOutcome.{ListedOutcome}
use Rattle.asm_explore.specs.declared.outcomes.outcomes_error.OutcomesError.{OutcomesError}
use Rattle.asm_explore.specs.code.ExploredRules.{exploration_shape, exploration_state, outcome_on, yields_on, here_on, parts_from, in_order_from, turns_from, parts_on, in_order_on}
use Rattle.asm_explore.specs.code.OutcomeLists.{Situation, picked, Each, Shown, AreCounted, IsSound, Lists, IsPicked}
use Rattle.asm_explore.specs.code.Sequences.{StepsTo, step_of}
use Rattle.asm_explore.proofs.CodeRules as rules

-- a number below the next one
by_order : (j k : ℕ) → j < k + 1 → (j < k) ⊎ (j ≡ k)
by_order zero zero low = inr refl
by_order zero (suc k) low = inl (omega arith)
by_order (suc j) zero low = absurd (omega (arith, low))
by_order (suc j) (suc k) low = one_more j k (by_order j k (omega (arith, low)))
  where
    one_more : (j k : ℕ) → (j < k) ⊎ (j ≡ k) → (suc j < suc k) ⊎ (suc j ≡ suc k)
    one_more j k (inl h) = inl (omega (arith, h))
    one_more j k (inr h) = inr (ap suc h)

pub no_elements : {X : Type 0} (xs : List X) → length xs ≡ 0 → xs ≡ []
no_elements [] is = refl
no_elements (x ∷ xs) is = absurd (omega (arith, is))

-- the candidate with a number that is among them
taken_at : (k : ℕ) (vs : List Value) (v : Value) → k < length vs → v ≡ get_or vs k v → Some v ≡ taken k vs
taken_at k [] v low is = absurd (omega (arith, low))
taken_at k (u ∷ us) v low is =
    sym (ap Some (ap (λ n. get_or (u ∷ us) n u) (mod-eq_of_lt low) ∙ get_or_from_slice_get (u ∷ us) k v u (slice_get_read (u ∷ us) (length (u ∷ us)) k v refl low is)))

-- whatever is picked, one of the candidates is taken
some_is_taken : (n : ℕ) (vs : List Value) → 0 < length vs → (j : ℕ) × (v : Value) × (j < length vs) × (slice_get vs j ≡ Some v) × (Some v ≡ taken n vs)
some_is_taken n [] some = absurd (omega (arith, some))
some_is_taken n (w ∷ ws) some =
    let low : n % length (w ∷ ws) < length (w ∷ ws) = mod_below n (length (w ∷ ws)) some in
    (n % length (w ∷ ws), get_or (w ∷ ws) (n % length (w ∷ ws)) w, low, slice_get-get_or (w ∷ ws) (n % length (w ∷ ws)) w low, refl)

-- the candidates among the elements so far, with one more of these
pub more_candidates : (p : Value → Bool) (vs : List Value) (i : ℕ) (v : Value) (b : Bool) → slice_get vs i ≡ Some v → b ≡ p v
    → filter p (take (i + 1) vs) ≡ filter p (take i vs) ++ cond b (v ∷ []) []
more_candidates p vs i v b there is =
    let read : get_or vs i v ≡ v = get_or_from_slice_get vs i v v there in
    filter_more p vs i v (slice_get_within vs i v there)
    ∙ ap (λ xs. filter p (take i vs) ++ xs) ((λ j. cond (p (read j)) (read j ∷ []) []) ∙ ap (λ b. cond b (v ∷ []) []) (sym is))

-- what a call promises, of a rule that yields the same
pub ok_same : (shape : Shape) (o q : Situation → Result) (r : Returned (Vec ListedOutcome Global) OutcomesError) → ((s : Situation) → o s ≡ q s)
    → IfOk r (λ fs. Lists shape o fs.items) → IfOk r (λ fs. Lists shape q fs.items)
ok_same shape o q r alike = subst (λ it. IfOk r (λ fs. Lists shape it fs.items)) (λ i s. alike s i)

module _ (on : Exploration) (f : Frame) (p : Path) where
  abbrev rs : List Reading
  rs = readings_of (exploration_shape on) f

  abbrev ls : Locations
  ls = frame_locations (exploration_shape on) f

  -- ---- parts

  abbrev pub parts_left : List RuleCode → ℕ → Situation → Result
  parts_left Rs k s = (parts_from on f p k (rules_of (map rule_of (drop k Rs))) s).result

  pub part_next : (Rs : List RuleCode) (i : ℕ) (R : RuleCode) → i < length Rs → R ≡ get_or Rs i R → (s : Situation)
      → beside (yields_on on f (at p i) (rule_of R) s) (parts_left Rs (i + 1) s) ≡ parts_left Rs i s
  part_next Rs i R low is s = ap (λ (o : Outcome). o.result) (rules.next_yields (exploration_shape on) on.turns (picked s) rs ls (exploration_state on) p Rs i R low is)

  pub part_last : (Rs : List RuleCode) (i : ℕ) → length Rs ≤ i → (s : Situation) → nothing.result ≡ parts_left Rs i s
  part_last Rs i past s = ap (λ (o : Outcome). o.result) (rules.none_yields (exploration_shape on) on.turns (picked s) rs ls (exploration_state on) p Rs i past)

  -- ---- the body under one value more

  abbrev pub value_yields : RuleCode → Value → ℕ → Situation → Result
  value_yields R v k s = (meaning (exploration_shape on) on.turns (picked s) (rule_of R) (always v ∷ rs) (None ∷ ls) (exploration_state on) (at p k)).result

  -- ---- elements

  module _ (u : ℕ) (c : Option Code) (R : RuleCode) where
    abbrev pub each_left : (to : ℕ) → List Value → ℕ → Situation → Result
    each_left to vs k s = (rules.span_yields (exploration_shape on) on.turns (picked s) rs ls (exploration_state on) p u (option_map code_of c) R to vs k).result

    abbrev pub is_passing : Value → Bool
    is_passing v = passes (exploration_shape on) (option_map code_of c) (always v ∷ rs) (exploration_state on)

    pub element_next : (to : ℕ) (vs : List Value) (i : ℕ) (v : Value) → i < to → slice_get vs i ≡ Some v → (s : Situation) (so : Bool) → so ≡ is_passing v
        → cond so (beside (value_yields R v i s) (each_left to vs (i + 1) s)) (each_left to vs (i + 1) s) ≡ each_left to vs i s
    element_next to vs i v low there s true test =
        ap (λ (o : Outcome). o.result) (rules.element_yields (exploration_shape on) on.turns (picked s) rs ls (exploration_state on) p u (option_map code_of c) R to vs i v low there test)
    element_next to vs i v low there s false test =
        ap (λ (o : Outcome). o.result) (rules.passed_yields (exploration_shape on) on.turns (picked s) rs ls (exploration_state on) p u (option_map code_of c) R to vs i v low there test)

    pub element_last : (to : ℕ) (vs : List Value) (i : ℕ) → to ≤ i → (s : Situation) → nothing.result ≡ each_left to vs i s
    element_last to vs i past s =
        ap (λ (o : Outcome). o.result) (rules.no_element_yields (exploration_shape on) on.turns (picked s) rs ls (exploration_state on) p u (option_map code_of c) R to vs i past)

    pub forall_yields : (to : ℕ) → to ≡ length (universe_at (exploration_shape on) u) → (s : Situation)
        → each_left to (universe_at (exploration_shape on) u) 0 s ≡ yields_on on f p (tree.Forall u (option_map code_of c) (rule_of R)) s
    forall_yields to all s = ap (λ (o : Outcome). o.result) (rules.forall_with (exploration_shape on) on.turns (picked s) rs ls (exploration_state on) p u c R to all)

  -- ---- candidates

  module _ (u : ℕ) (c : Option Code) (R N : RuleCode) where
    abbrev pub choose_yields : Situation → Result
    choose_yields = yields_on on f p (tree.Choose u (option_map code_of c) (rule_of R) (rule_of N))

    abbrev pub candidate_yields : Value → Situation → Result
    candidate_yields v = value_yields R v 0

    taken_yields : (vs : List Value) → vs ≡ passing_in on.view.now f u c → (k : ℕ) (v : Value) → k < length vs → v ≡ get_or vs k v
        → (s : Situation) → picked s p ≡ k → candidate_yields v s ≡ choose_yields s
    taken_yields vs all k v low is s chosen =
        let there : Some v ≡ taken k vs = taken_at k vs v low is in
        let here : Some v ≡ taken (picked s p) (passing_in on.view.now f u c) = there ∙ (λ i. taken (sym chosen i) (all i)) in
        ap (λ (o : Outcome). o.result) (rules.choose_some (exploration_shape on) on.turns (picked s) rs ls (exploration_state on) p u c R N v here)

    one_yields : (vs : List Value) → vs ≡ passing_in on.view.now f u c → 0 < length vs → (s : Situation)
        → (j : ℕ) × (v : Value) × (j < length vs) × (slice_get vs j ≡ Some v) × (candidate_yields v s ≡ choose_yields s)
    one_yields vs all some s =
        let one = some_is_taken (picked s p) vs some in (
          one.0,
          one.1,
          one.2,
          one.3,
          ap (λ (o : Outcome). o.result) (rules.choose_some (exploration_shape on) on.turns (picked s) rs ls (exploration_state on) p u c R N one.1 (one.4 ∙ ap (taken (picked s p)) all)),
        )

    pub none_yields : (vs : List Value) → vs ≡ passing_in on.view.now f u c → vs ≡ [] → (s : Situation)
        → yields_on on f (at p 1) (rule_of N) s ≡ choose_yields s
    none_yields vs all empty s =
        ap (λ (o : Outcome). o.result) (rules.choose_none (exploration_shape on) on.turns (picked s) rs ls (exploration_state on) p u c R N (ap (taken (picked s p)) (sym empty ∙ all)))

    -- ---- one candidate after the other

    module _ (vs : List Value) where
      -- what the body yields for the first candidates is listed
      pub record IsChoosing (k : ℕ) (found : List ListedOutcome) : Type 0 where
        pub counted : AreCounted (count_of (exploration_shape on)) found
        pub shown : (j : ℕ) (v : Value) → j < k → slice_get vs j ≡ Some v → (s : Situation) → Shown (exploration_shape on) found (candidate_yields v s)
        pub sound : Each (IsSound (exploration_shape on) choose_yields) found

      pub choosing_none : (found : List ListedOutcome) → found ≡ [] → IsChoosing 0 found
      choosing_none found is = record {
        counted = subst (AreCounted (count_of (exploration_shape on))) (sym is) tt;
        shown = λ j v low there s. absurd (omega (arith, low));
        sound = subst (Each (IsSound (exploration_shape on) choose_yields)) (sym is) tt;
      }

      same_value : (v w : Value) (o : Option Value) → o ≡ Some v → o ≡ Some w → w ≡ v
      same_value v w o is there = cc

      pub choosing_more : vs ≡ passing_in on.view.now f u c → (k : ℕ) (v : Value) → slice_get vs k ≡ Some v → (part old new : List ListedOutcome)
          → Lists (exploration_shape on) (candidate_yields v) part → IsPicked p k part old new → IsChoosing k old → IsChoosing (k + 1) new
      choosing_more all k v there part old new lists picks so_far = record {
        counted = picks.counted (count_of (exploration_shape on)) lists.counted so_far.counted;
        shown = λ j w low at s. by_place j w at s (by_order j k low);
        sound = picks.sound (exploration_shape on) (candidate_yields v) choose_yields lists.sound
            (λ s chosen. taken_yields vs all k v (slice_get_within vs k v there) (sym (get_or_from_slice_get vs k v v there)) s chosen) so_far.sound;
      }
        where
          by_place : (j : ℕ) (w : Value) → slice_get vs j ≡ Some w → (s : Situation) → (j < k) ⊎ (j ≡ k) → Shown (exploration_shape on) new (candidate_yields w s)
          by_place j w at s (inl low) = picks.older (exploration_shape on) (candidate_yields w s) (so_far.shown j w low at s)
          by_place j w at s (inr is) =
              subst (λ u. Shown (exploration_shape on) new (candidate_yields u s)) (same_value w v (slice_get vs j) at (ap (slice_get vs) is ∙ there))
              (picks.shown (exploration_shape on) (candidate_yields v s) (lists.complete s))

      pub choosing_all : vs ≡ passing_in on.view.now f u c → 0 < length vs → (k : ℕ) (found : List ListedOutcome) → length vs ≤ k → IsChoosing k found
          → Lists (exploration_shape on) choose_yields found
      choosing_all all some k found past so_far = record {
        counted = so_far.counted;
        complete = λ s.
            let one = one_yields vs all some s in
            subst (Shown (exploration_shape on) found) one.4 (so_far.shown one.0 one.1 (omega (arith, one.2, past)) one.3 s);
        sound = so_far.sound;
      }

  -- ---- assignments

  module _ (to : TargetCode) (t : Code) where
    abbrev pub assign : tree.RuleCode
    assign = tree.Assign (target_code_of to) (code_of t)

    abbrev location_here : Option Location
    location_here = target_location (exploration_shape on) (target_code_of to) rs ls (exploration_state on)

    abbrev value_here : Value
    value_here = reading (exploration_shape on) (code_of t) rs (exploration_state on)

    assign_yields : (s : Situation) (V : UpdateSet) → update location_here value_here ≡ V → Gives V ≡ yields_on on f p assign s
    assign_yields s V is =
        sym (ap Gives is) ∙ ap (λ (o : Outcome). o.result) (rules.assign_with (exploration_shape on) on.turns (picked s) rs ls (exploration_state on) p to t)

    -- the update at the number of the location that is named
    pub update_yields : (n : ℕ) (v : Value) → location_numbered (exploration_shape on) (Some n) ≡ location_here → v ≡ value_here
        → (s : Situation) → Gives (one (location_at (exploration_shape on) n) v) ≡ yields_on on f p assign s
    update_yields n v there is s =
        assign_yields s (one (location_at (exploration_shape on) n) v)
        (ap (λ (l : Option Location). update l value_here) (sym there) ∙ ap (one (location_at (exploration_shape on) n)) (sym is))

    -- a place that is no location
    pub no_update_yields : None ≡ location_here → (s : Situation) → Gives none ≡ yields_on on f p assign s
    no_update_yields no_location s = assign_yields s none (ap (λ (l : Option Location). update l value_here) (sym no_location))

  -- ---- each kind of rule

  pub skip_yields : (R : RuleCode) → R ≡ code.Skip → (s : Situation) → nothing.result ≡ yields_on on f p (rule_of R) s
  skip_yields R is s = ap (λ (o : Outcome). o.result) (rules.skip_yields (exploration_shape on) on.turns (picked s) rs ls (exploration_state on) p R is)

  pub assign_is : (R : RuleCode) (to : TargetCode) (t : Code) → R ≡ code.Assign to t → (s : Situation) → yields_on on f p (tree.Assign (target_code_of to) (code_of t)) s ≡ yields_on on f p (rule_of R) s
  assign_is R to t is s = ap (λ (o : Outcome). o.result) (rules.assign_is (exploration_shape on) on.turns (picked s) rs ls (exploration_state on) p R to t is to t refl refl)

  pub par_yields : (R : RuleCode) (Ps : Vec RuleCode Global) → R ≡ code.Par Ps → (Qs : List RuleCode) → Qs ≡ Ps.items → (s : Situation)
      → parts_on on f p (rules_of (map rule_of Qs)) s ≡ yields_on on f p (rule_of R) s
  par_yields R Ps is Qs same s = ap (λ (o : Outcome). o.result) (rules.par_yields (exploration_shape on) on.turns (picked s) rs ls (exploration_state on) p R Ps is Qs same)

  pub seq_yields : (R : RuleCode) (Ps : Vec RuleCode Global) → R ≡ code.Seq Ps → (Qs : List RuleCode) → Qs ≡ Ps.items → (s : Situation)
      → in_order_on on f p (rules_of (map rule_of Qs)) s ≡ yields_on on f p (rule_of R) s
  seq_yields R Ps is Qs same s = ap (λ (o : Outcome). o.result) (rules.seq_yields (exploration_shape on) on.turns (picked s) rs ls (exploration_state on) p R Ps is Qs same)

  -- ---- the same by the parts

  pub if_yes : (c : Code) (S N : RuleCode) → is_true (reading (exploration_shape on) (code_of c) rs (exploration_state on)) ≡ true → (s : Situation)
      → yields_on on f (at p 0) (rule_of S) s ≡ yields_on on f p (tree.If (code_of c) (rule_of S) (rule_of N)) s
  if_yes c S N holds s = ap (λ (o : Outcome). o.result) (rules.if_yes (exploration_shape on) on.turns (picked s) rs ls (exploration_state on) p c S N holds)

  pub if_no : (c : Code) (S N : RuleCode) → is_true (reading (exploration_shape on) (code_of c) rs (exploration_state on)) ≡ false → (s : Situation)
      → yields_on on f (at p 1) (rule_of N) s ≡ yields_on on f p (tree.If (code_of c) (rule_of S) (rule_of N)) s
  if_no c S N fails s = ap (λ (o : Outcome). o.result) (rules.if_no (exploration_shape on) on.turns (picked s) rs ls (exploration_state on) p c S N fails)

  pub let_with : (t : Code) (S : RuleCode) (v : Value) → v ≡ reading (exploration_shape on) (code_of t) rs (exploration_state on) → (s : Situation)
      → value_yields S v 0 s ≡ yields_on on f p (tree.Let (code_of t) (rule_of S)) s
  let_with t S v valued s = ap (λ (o : Outcome). o.result) (rules.let_with (exploration_shape on) on.turns (picked s) rs ls (exploration_state on) p t S v valued)

  pub call_with : (S : RuleCode) (to : Option TargetCode) (us : List Code) (n : Option ℕ) → location_numbered (exploration_shape on) n ≡ optional_target_in on.view.now f (option_map target_code_of to) → (s : Situation)
      → (meaning (exploration_shape on) on.turns (picked s) (rule_of S) (result_contents (exploration_shape on) n ++ by_name (exploration_shape on) rs us) (result_locations (location_numbered (exploration_shape on) n)) (exploration_state on) (at p 0)).result
      ≡ yields_on on f p (tree.Call (rule_of S) (option_map target_code_of to) (codes_of (map code_of us))) s
  call_with S to us n there s = ap (λ (o : Outcome). o.result) (rules.call_with (exploration_shape on) on.turns (picked s) rs ls (exploration_state on) p S to us n there)

  -- ---- one after the other

  cond_result : (c : Bool) (x y : Outcome) → (cond c x y).result ≡ cond c x.result y.result
  cond_result true x y = refl
  cond_result false x y = refl

  swapped : (c : Bool) (x y : Result) → cond c x y ≡ cond (not c) y x
  swapped true x y = refl
  swapped false x y = refl

  part_step : (r : Result) (n : ℕ) (rest : UpdateSet → Outcome) → (part_and r n rest).result ≡ step_of false r (λ V. (rest V).result)
  part_step (Exhausted q) n rest = refl
  part_step (Gives U) n rest =
      cond_result (is_consistent U) (following U n (rest U)) (record { result = Gives U; instances = n })
      ∙ swapped (is_consistent U) (after U (rest U).result) (Gives U)

  turn_step : (r : Result) (n : ℕ) (rest : UpdateSet → Outcome) → (turn_and r n rest).result ≡ step_of true r (λ V. (rest V).result)
  turn_step (Exhausted q) n rest = refl
  turn_step (Gives U) n rest = cond_result (is_none U || not (is_consistent U)) (record { result = Gives U; instances = n }) (following U n (rest U))

  abbrev pub order_left : List RuleCode → ℕ → Situation → State → Result
  order_left Rs i s A = (in_order_from on f p i (rules_of (map rule_of (drop i Rs))) s A).result

  pub order_steps : (Rs : List RuleCode) (i : ℕ) (R : RuleCode) → i < length Rs → R ≡ get_or Rs i R
      → StepsTo false (order_left Rs i) (here_on on f (at p i) (rule_of R)) (order_left Rs (i + 1))
  order_steps Rs i R low is s B =
      let here : Outcome = outcome_on on f (at p i) (rule_of R) s B in
      ap (λ (o : Outcome). o.result) (rules.order_next (exploration_shape on) on.turns (picked s) rs ls (exploration_state on) p Rs i R B low is)
      ∙ part_step here.result here.instances (λ V. in_order_from on f p (i + 1) (rules_of (map rule_of (drop (i + 1) Rs))) s (fire B V))

  pub order_ends : (Rs : List RuleCode) (i : ℕ) → length Rs ≤ i → (s : Situation) (B : State) → order_left Rs i s B ≡ Gives none
  order_ends Rs i past s B = ap (λ (o : Outcome). o.result) (rules.order_end (exploration_shape on) on.turns (picked s) rs ls (exploration_state on) p Rs i B past)

  abbrev pub turns_left : tree.RuleCode → ℕ → ℕ → Situation → State → Result
  turns_left R left t s A = (turns_from on f p left t R s A).result

  pub iterate_yields : (R : tree.RuleCode) (s : Situation) → turns_left R on.turns 0 s (exploration_state on) ≡ yields_on on f p (tree.Iterate R) s
  iterate_yields R s = ap (λ (o : Outcome). o.result) (rules.iterate_with (exploration_shape on) on.turns (picked s) rs ls (exploration_state on) p R)

  pub turn_steps : (R : tree.RuleCode) (left t : ℕ) → StepsTo true (turns_left R (suc left) t) (here_on on f (at p t) R) (turns_left R left (t + 1))
  turn_steps R left t s B =
      let here : Outcome = outcome_on on f (at p t) R s B in
      turn_step here.result here.instances (λ V. turns_from on f p left (suc t) R s (fire B V))
      ∙ (λ j. step_of true here.result (λ V. (turns_from on f p left (sym (add-one t) j) R s (fire B V)).result))
