-- Free. Runs under scripts that are alike.
--     picked_until     scripts that pick the same up to a step have the same run up to it
--     wrong_alike      if of two runs that are the same up to a fault the one goes wrong, the other
--                      does
use Rattle.std.proofs.Common.{◌≡◌, ℕ, zero, suc, ◌+◌, ◌<◌, ◌≤◌, Bool, true, false, cond, List, [], ◌∷◌, refl, sym, ap, subst, ◌∙◌, arith}
use Rattle.asm_state.specs.Location.{State}
use Rattle.asm_state.specs.Updates.{UpdateSet, is_consistent, fire}
use Rattle.asm_reader.specs.ScriptLines.{Script, pick}
use Rattle.asm_meaning.specs.Does.{Outcome, does, does_within}
use Rattle.asm_meaning.specs.Program.{nothing_bound}
use Rattle.asm_meaning.specs.Run.{Run, AtFault, Specification, run, run_from, sets_of, step_and, fired, ended}
use Rattle.asm_meaning.specs.Value.{nesting}
use Rattle.asm_meaning.specs.Yields.{Result, Gives, Exhausted}
use Rattle.asm_explore.specs.declared.fault.Fault.{Fault}
use Rattle.asm_explore.specs.declared.fault.Fault.TheVariants as fault
use Rattle.asm_explore.specs.Search.{IsAliveOrCrowded, EndsSo, IsDeadlock, steps_to}
use Rattle.asm_explore.specs.declared.outcomes.outcomes_error.RuleOverLimit.{RuleOverLimit}
use Rattle.asm_random.specs.BadDrafts.{IsWrongUnder}

module _ (specification : Specification) (turns : ℕ) where
  abbrev run_by : Script → ℕ → ℕ → State → Run
  run_by script n i A = run_from specification.program turns specification.main script n i A

  abbrev outcome_by : Script → ℕ → State → Outcome
  outcome_by script i A = does specification.program turns script i A nothing_bound [] specification.main

  abbrev then_by : Result → (instances i : ℕ) → State → (UpdateSet → Run) → Run
  then_by r m i A rest = step_and specification.program turns specification.main r m i A rest

  -- ---- scripts that pick the same

  does_alike : (s t : Script) (i : ℕ) (A : State) → ((p : List ℕ) → pick s i p ≡ pick t i p) → outcome_by s i A ≡ outcome_by t i A
  unfolding does
  does_alike s t i A same = λ j. does_within specification.program turns (λ p. same p j) nesting specification.main A nothing_bound []

  runs_until : (s t : Script) (n i : ℕ) (A : State) → ((step : ℕ) (p : List ℕ) → step < i + n → pick s step p ≡ pick t step p) → run_by s n i A ≡ run_by t n i A
  runs_until s t zero i A same = refl
  runs_until s t (suc n) i A same =
      let here : i < i + suc n = omega arith in
      ap (λ (o : Outcome). then_by o.result o.instances i A (λ U. run_by s n (suc i) (fire A U))) (does_alike s t i A (λ p. same i p here))
      ∙ (λ j. then_by (outcome_by t i A).result (outcome_by t i A).instances i A
      (λ U. runs_until s t n (suc i) (fire A U) (λ step p low. same step p (omega (arith, low))) j))

  pub picked_until : (s t : Script) (n : ℕ) → ((step : ℕ) (p : List ℕ) → step < 1 + n → pick s step p ≡ pick t step p) → run specification turns s n ≡ run specification turns t n
  picked_until s t n same = runs_until s t n 1 specification.initial same

  -- ---- the states that a run comes to

  -- the state that the first of some sets lead to
  abbrev led : ℕ → List UpdateSet → State → State
  led zero Us A = A
  led (suc k) [] A = A
  led (suc k) (U ∷ Us) A = led k Us (fire A U)

  by_step : (k i : ℕ) (A : State) (r : Result) (m : ℕ) (x y : UpdateSet → Run) → ((U : UpdateSet) → (x U).last ≡ led k (sets_of (y U)) (fire A U))
      → (then_by r m i A x).last ≡ led (suc k) (sets_of (then_by r m i A y)) A
  by_step k i A (Exhausted q) m x y h = refl
  by_step k i A (Gives U) m x y h = by_test (is_consistent U)
    where
      by_test : (b : Bool) → (cond b (fired U m (x U)) (ended (AtFault i U) A)).last ≡ led (suc k) (sets_of (cond b (fired U m (y U)) (ended (AtFault i U) A))) A
      by_test true = h U
      by_test false = refl

  by_sets : (script : Script) (n k i : ℕ) (A : State) → k ≤ n → (run_by script k i A).last ≡ led k (sets_of (run_by script n i A)) A
  by_sets script n zero i A low = refl
  by_sets script zero (suc k) i A low = absurd (omega (arith, low))
  by_sets script (suc n) (suc k) i A low =
      let less : k ≤ n = omega (arith, low) in
      by_step k i A (outcome_by script i A).result (outcome_by script i A).instances (λ U. run_by script k (suc i) (fire A U)) (λ U. run_by script n (suc i) (fire A U))
      (λ U. by_sets script n k (suc i) (fire A U) less)

  last_alike : (s t : Script) (n k : ℕ) → k ≤ n → run specification turns s n ≡ run specification turns t n → (run specification turns s k).last ≡ (run specification turns t k).last
  last_alike s t n k low same =
      by_sets s n k 1 specification.initial low ∙ ap (λ (r : Run). led k (sets_of r) specification.initial) same ∙ sym (by_sets t n k 1 specification.initial low)

  -- ---- runs that go wrong

  before_it : (f : Fault) (step k : ℕ) → k < step → k ≤ steps_to f step
  before_it fault.Exhausted step k low = omega (arith, low)
  before_it fault.Inconsistent step k low = omega (arith, low)
  before_it fault.Wrong step k low = omega (arith, low)
  before_it fault.Deadlock step k low = omega (arith, low)

  module _ (crowds : State → RuleOverLimit → Type 0) (steps : ℕ) (right rests : State → Bool) where
    pub wrong_alike : (s t : Script) (step : ℕ) (f : Fault) → run specification turns s (steps_to f step) ≡ run specification turns t (steps_to f step)
        → IsWrongUnder specification turns crowds steps right rests t step f → IsWrongUnder specification turns crowds steps right rests s step f
    wrong_alike s t step f same h =
        record {
          counted = h.counted;
          limited = h.limited;
          wrong = subst (EndsSo right (IsDeadlock specification turns rests) f step) (sym same) h.wrong;
          before = λ k low. ap right (last_alike s t (steps_to f step) k (before_it f step k low) same) ∙ h.before k low;
          alive = λ k low. let less : k ≤ steps_to f step = omega (arith, low) in subst (IsAliveOrCrowded specification turns crowds rests) (sym (last_alike s t (steps_to f step) k less same)) (h.alive k low);
        }
