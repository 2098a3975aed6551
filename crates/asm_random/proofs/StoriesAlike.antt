-- Free. Runs whose steps tell the same stories.
--     tells_alike      scripts that pick the same in a step have it tell the same
--     runs_alike       if under two scripts each step tells the same, the runs are the same
--     lists_alike      and so is what is chosen in their steps
--     chosen_at        what is chosen in a step of a run is at its place in the list of all steps
use Rattle.std.proofs.Common.{◌≡◌, ◌∙◌, ℕ, zero, suc, ◌+◌, ◌<◌, ◌≤◌, Bool, true, false, cond, List, [], ◌∷◌, Some, refl, sym, ap, subst, arith, slice_get}
use Rattle.asm_state.specs.Location.{State}
use Rattle.asm_state.specs.Updates.{UpdateSet, is_consistent, fire}
use Rattle.asm_reader.specs.ScriptLines.{Script, pick}
use Rattle.asm_meaning.specs.Does.{Outcome, does}
use Rattle.asm_meaning.specs.Program.{nothing_bound}
use Rattle.asm_meaning.specs.Run.{Run, End, AtLimit, AtExhausted, AtFault, Specification, run, run_from, step_and, fired, ended}
use Rattle.asm_meaning.specs.Story.{Story, outcome_of, step_tells, tells, tells_within}
use Rattle.asm_meaning.specs.StoryLaws.{AreToldOutcomes}
use Rattle.asm_meaning.specs.Value.{nesting}
use Rattle.asm_meaning.specs.Yields.{Result, Gives, Exhausted}
use Rattle.asm_explore.specs.ChoicePoints.{after_set, asked, choices_of}
use Rattle.asm_explore.specs.RunChoices.{chosen_from, from_step}
use Rattle.asm_explore.specs.declared.outcomes.listed_outcome.Choice.{Choice}

module _ (specification : Specification) (turns : ℕ) where
  abbrev pub told_by : Script → ℕ → State → Story
  told_by script i A = step_tells specification turns script i A

  pub tells_alike : (s t : Script) (i : ℕ) (A : State) → ((p : List ℕ) → pick s i p ≡ pick t i p) → told_by s i A ≡ told_by t i A
  unfolding tells
  tells_alike s t i A same = λ j. tells_within specification.program turns (λ p. same p j) nesting specification.main A nothing_bound []

  abbrev run_by : Script → ℕ → ℕ → State → Run
  run_by script n i A = run_from specification.program turns specification.main script n i A

  abbrev outcome_by : Script → ℕ → State → Outcome
  outcome_by script i A = does specification.program turns script i A nothing_bound [] specification.main

  abbrev then_by : Result → (instances i : ℕ) → State → (UpdateSet → Run) → Run
  then_by r m i A rest = step_and specification.program turns specification.main r m i A rest

  abbrev chosen_by : Script → ℕ → ℕ → State → List (List Choice)
  chosen_by script n i A = from_step specification turns (chosen_from specification turns) script n i A

  -- ---- one step, by what it yields

  not_limit : (e : End) (i : ℕ) (q : List ℕ) → e ≡ AtExhausted i q → e ≡ AtLimit → ⊥
  not_limit e i q is also = cc

  not_faulty : (e : End) (i : ℕ) (U : UpdateSet) → e ≡ AtFault i U → e ≡ AtLimit → ⊥
  not_faulty e i U is also = cc

  one_test : (b : Bool) → b ≡ true → b ≡ false → ⊥
  one_test b is also = cc

  -- a step that fires a set
  fires : (r : Result) (m i : ℕ) (A : State) (rest : UpdateSet → Run) (U : UpdateSet) → r ≡ Gives U → is_consistent U ≡ true → then_by r m i A rest ≡ fired U m (rest U)
  fires r m i A rest U gives good = ap (λ (it : Result). then_by it m i A rest) gives ∙ ap (λ b. cond b (fired U m (rest U)) (ended (AtFault i U) A)) good

  -- after which the run is the same, if what comes after each set that is fired is
  step_alike : (r : Result) (m i : ℕ) (A : State) (x y : UpdateSet → Run) → ((U : UpdateSet) → r ≡ Gives U → is_consistent U ≡ true → x U ≡ y U) → then_by r m i A x ≡ then_by r m i A y
  step_alike (Exhausted q) m i A x y h = refl
  step_alike (Gives U) m i A x y h = by_test (is_consistent U) refl
    where
      by_test : (b : Bool) → is_consistent U ≡ b → cond b (fired U m (x U)) (ended (AtFault i U) A) ≡ cond b (fired U m (y U)) (ended (AtFault i U) A)
      by_test true good = ap (fired U m) (h U refl good)
      by_test false bad = refl

  list_alike : {X : Type 0} (r : Result) (x y : UpdateSet → List X) → ((U : UpdateSet) → r ≡ Gives U → is_consistent U ≡ true → x U ≡ y U) → after_set r x ≡ after_set r y
  list_alike (Exhausted q) x y h = refl
  list_alike (Gives U) x y h = by_test (is_consistent U) refl
    where
      by_test : (b : Bool) → is_consistent U ≡ b → cond b (x U) [] ≡ cond b (y U) []
      by_test true good = h U refl good
      by_test false bad = refl

  -- ---- steps that tell the same

  -- each step of n, from the state A and step i on, begins where the run comes to its limit, and tells the same under another script
  record TellAlike (s t : Script) (n i : ℕ) (A : State) : Type 0 where
    begins : (k : ℕ) → k < n → (run_by s k i A).end ≡ AtLimit
    alike : (k : ℕ) → k < n → told_by t (i + k) (run_by s k i A).last ≡ told_by s (i + k) (run_by s k i A).last

  module _ (told : AreToldOutcomes) where
    does_told : (s : Script) (i : ℕ) (A : State) → outcome_of (told_by s i A) ≡ outcome_by s i A
    does_told s i A = told specification.program turns s i A nothing_bound [] specification.main

    first_alike : (s t : Script) (n i : ℕ) (A : State) → TellAlike s t (suc n) i A → told_by t i A ≡ told_by s i A
    first_alike s t n i A h =
        let low : 0 < suc n = omega arith in
        let here : i + 0 ≡ i = omega arith in
        subst (λ (k : ℕ). told_by t k A ≡ told_by s k A) here (h.alike 0 low)

    same_outcome : (s t : Script) (n i : ℕ) (A : State) → TellAlike s t (suc n) i A → outcome_by t i A ≡ outcome_by s i A
    same_outcome s t n i A h = sym (does_told t i A) ∙ (ap outcome_of (first_alike s t n i A h) ∙ does_told s i A)

    -- after the first step
    later_alike : (s t : Script) (n i : ℕ) (A : State) (U : UpdateSet) → (outcome_by s i A).result ≡ Gives U → is_consistent U ≡ true → TellAlike s t (suc n) i A
        → TellAlike s t n (suc i) (fire A U)
    later_alike s t n i A U gives good h = record { begins = begins; alike = alike }
      where
        goes : (k : ℕ) → run_by s (suc k) i A ≡ fired U (outcome_by s i A).instances (run_by s k (suc i) (fire A U))
        goes k = fires (outcome_by s i A).result (outcome_by s i A).instances i A (λ V. run_by s k (suc i) (fire A V)) U gives good

        begins : (k : ℕ) → k < n → (run_by s k (suc i) (fire A U)).end ≡ AtLimit
        begins k low = let more : suc k < suc n = omega (arith, low) in sym (ap (λ (r : Run). r.end) (goes k)) ∙ h.begins (suc k) more

        alike : (k : ℕ) → k < n → told_by t (suc i + k) (run_by s k (suc i) (fire A U)).last ≡ told_by s (suc i + k) (run_by s k (suc i) (fire A U)).last
        alike k low =
            let more : suc k < suc n = omega (arith, low) in
            let next : i + suc k ≡ suc i + k = omega arith in
            subst (λ (B : State). told_by t (suc i + k) B ≡ told_by s (suc i + k) B) (ap (λ (r : Run). r.last) (goes k))
            (subst (λ (m : ℕ). told_by t m (run_by s (suc k) i A).last ≡ told_by s m (run_by s (suc k) i A).last) next (h.alike (suc k) more))

    runs_from : (s t : Script) (n i : ℕ) (A : State) → TellAlike s t n i A → run_by t n i A ≡ run_by s n i A
    runs_from s t zero i A h = refl
    runs_from s t (suc n) i A h =
        ap (λ (o : Outcome). then_by o.result o.instances i A (λ U. run_by t n (suc i) (fire A U))) (same_outcome s t n i A h)
        ∙ step_alike (outcome_by s i A).result (outcome_by s i A).instances i A (λ U. run_by t n (suc i) (fire A U)) (λ U. run_by s n (suc i) (fire A U))
        (λ U gives good. runs_from s t n (suc i) (fire A U) (later_alike s t n i A U gives good h))

    lists_from : (s t : Script) (n i : ℕ) (A : State) → TellAlike s t n i A → chosen_by t n i A ≡ chosen_by s n i A
    lists_from s t zero i A h = refl
    lists_from s t (suc n) i A h =
        ap (λ (story : Story). choices_of (asked story) ∷ after_set (outcome_by t i A).result (λ U. chosen_by t n (suc i) (fire A U))) (first_alike s t n i A h)
        ∙ (ap (λ (o : Outcome). choices_of (asked (told_by s i A)) ∷ after_set o.result (λ U. chosen_by t n (suc i) (fire A U))) (same_outcome s t n i A h)
        ∙ ap (λ (rest : List (List Choice)). choices_of (asked (told_by s i A)) ∷ rest)
        (list_alike (outcome_by s i A).result (λ U. chosen_by t n (suc i) (fire A U)) (λ U. chosen_by s n (suc i) (fire A U))
        (λ U gives good. lists_from s t n (suc i) (fire A U) (later_alike s t n i A U gives good h))))

    shorter : (s t : Script) (n k i : ℕ) (A : State) → k ≤ n → TellAlike s t n i A → TellAlike s t k i A
    shorter s t n k i A low h = record { begins = λ j less. h.begins j (omega (arith, low, less)); alike = λ j less. h.alike j (omega (arith, low, less)) }

  -- ---- from the first step on

  pub record AreToldAlikeTo (s t : Script) (n : ℕ) : Type 0 where
    pub begins : (k : ℕ) → k < n → (run specification turns s k).end ≡ AtLimit
    pub alike : (k : ℕ) → k < n → told_by t (suc k) (run specification turns s k).last ≡ told_by s (suc k) (run specification turns s k).last

  whole : (s t : Script) (n : ℕ) → AreToldAlikeTo s t n → TellAlike s t n 1 specification.initial
  whole s t n h = record {
    begins = h.begins;
    alike = λ k low.
        let next : suc k ≡ 1 + k = omega arith in
        subst (λ (m : ℕ). told_by t m (run specification turns s k).last ≡ told_by s m (run specification turns s k).last) next (h.alike k low);
  }

  pub runs_alike : AreToldOutcomes → (s t : Script) (n k : ℕ) → k ≤ n → AreToldAlikeTo s t n → run specification turns t k ≡ run specification turns s k
  runs_alike told s t n k low h = runs_from told s t k 1 specification.initial (shorter told s t n k 1 specification.initial low (whole s t n h))

  pub lists_alike : AreToldOutcomes → (s t : Script) (n : ℕ) → AreToldAlikeTo s t n → chosen_by t n 1 specification.initial ≡ chosen_by s n 1 specification.initial
  lists_alike told s t n h = lists_from told s t n 1 specification.initial (whole s t n h)

  -- ---- what is chosen in a step

  module _ (script : Script) where
    abbrev after_step : (k n i : ℕ) → State → Result → (instances : ℕ) → Type 0
    after_step k n i A r m =
        let made = then_by r m i A (λ U. run_by script k (suc i) (fire A U)) in
        made.end ≡ AtLimit
        → slice_get (after_set r (λ U. chosen_by script n (suc i) (fire A U))) k ≡ Some (chosen_from specification turns made.last (record { script = script; step = i + suc k }))

    -- by what the step yields, and by what is chosen after a set that it fires
    by_result : (k n i : ℕ) (A : State) (m : ℕ)
        → ((U : UpdateSet) → (run_by script k (suc i) (fire A U)).end ≡ AtLimit → slice_get (chosen_by script n (suc i) (fire A U)) k
        ≡ Some (chosen_from specification turns (run_by script k (suc i) (fire A U)).last (record { script = script; step = i + suc k })))
        → (r : Result) → after_step k n i A r m
    by_result k n i A m again (Exhausted q) ends = absurd (not_limit (AtExhausted i q) i q refl ends)
    by_result k n i A m again (Gives U) ends = by_test (is_consistent U) ends
      where
        by_test : (b : Bool) → (cond b (fired U m (run_by script k (suc i) (fire A U))) (ended (AtFault i U) A)).end ≡ AtLimit
            → slice_get (cond b (chosen_by script n (suc i) (fire A U)) []) k
            ≡ Some (chosen_from specification turns (cond b (fired U m (run_by script k (suc i) (fire A U))) (ended (AtFault i U) A)).last (record { script = script; step = i + suc k }))
        by_test true ends = again U ends
        by_test false ends = absurd (not_faulty (AtFault i U) i U refl ends)

    chosen_here : (k n i : ℕ) (A : State) → k < n → (run_by script k i A).end ≡ AtLimit
        → slice_get (chosen_by script n i A) k ≡ Some (chosen_from specification turns (run_by script k i A).last (record { script = script; step = i + k }))
    chosen_here k zero i A low limit = absurd (omega (arith, low))
    chosen_here zero (suc n) i A low limit =
        let here : i ≡ i + 0 = omega arith in
        ap (λ (m : ℕ). Some (chosen_from specification turns A (record { script = script; step = m }))) here
    chosen_here (suc k) (suc n) i A low limit =
        let less : k < n = omega (arith, low) in
        let next : suc i + k ≡ i + suc k = omega arith in
        by_result k n i A (outcome_by script i A).instances
        (λ U ends. chosen_here k n (suc i) (fire A U) less ends
        ∙ ap (λ (m : ℕ). Some (chosen_from specification turns (run_by script k (suc i) (fire A U)).last (record { script = script; step = m }))) next)
        (outcome_by script i A).result limit

    pub chosen_at : (k n : ℕ) → k < n → (run specification turns script k).end ≡ AtLimit
        → slice_get (chosen_by script n 1 specification.initial) k ≡ Some (chosen_from specification turns (run specification turns script k).last (record { script = script; step = 1 + k }))
    chosen_at k n low limit = chosen_here k n 1 specification.initial low limit
