-- Free. Runs that are the same come to the same states.
--     last_alike      two runs that are the same after some steps are in the same state after fewer
--     wrong_alike     if of two runs that are the same the one goes wrong, the other does
--     stays_alike     if the one stays within before the step that goes wrong, the other does
use Rattle.std.proofs.Common.{◌≡◌, ◌∙◌, ℕ, zero, suc, ◌<◌, ◌≤◌, Bool, true, false, cond, List, [], ◌∷◌, refl, sym, ap, subst, arith}
use Rattle.asm_state.specs.Location.{State}
use Rattle.asm_state.specs.Updates.{UpdateSet, is_consistent, fire}
use Rattle.asm_reader.specs.ScriptLines.{Script}
use Rattle.asm_meaning.specs.Does.{Outcome, does}
use Rattle.asm_meaning.specs.Program.{nothing_bound}
use Rattle.asm_meaning.specs.Run.{Run, AtFault, Specification, run, run_from, sets_of, step_and, fired, ended}
use Rattle.asm_meaning.specs.Yields.{Result, Gives, Exhausted}
use Rattle.asm_explore.specs.declared.fault.Fault.{Fault}
use Rattle.asm_explore.specs.declared.fault.Fault.TheVariants as fault
use Rattle.asm_explore.specs.Search.{EndsSo, GoesWrongIn, IsDeadlock, StaysWithin, steps_to}

module _ (specification : Specification) (turns : ℕ) where
  abbrev run_by : Script → ℕ → ℕ → State → Run
  run_by script n i A = run_from specification.program turns specification.main script n i A

  abbrev then_by : Result → (instances i : ℕ) → State → (UpdateSet → Run) → Run
  then_by r m i A rest = step_and specification.program turns specification.main r m i A rest

  -- the state that the first of some sets lead to
  abbrev led : ℕ → List UpdateSet → State → State
  led zero Us A = A
  led (suc k) [] A = A
  led (suc k) (U ∷ Us) A = led k Us (fire A U)

  by_step : (k i : ℕ) (A : State) (r : Result) (m : ℕ) (x y : UpdateSet → Run) → ((U : UpdateSet) → (x U).last ≡ led k (sets_of (y U)) (fire A U))
      → (then_by r m i A x).last ≡ led (suc k) (sets_of (then_by r m i A y)) A
  by_step k i A (Exhausted q) m x y h = refl
  by_step k i A (Gives U) m x y h = by_test (is_consistent U)
    where
      by_test : (b : Bool) → (cond b (fired U m (x U)) (ended (AtFault i U) A)).last ≡ led (suc k) (sets_of (cond b (fired U m (y U)) (ended (AtFault i U) A))) A
      by_test true = h U
      by_test false = refl

  by_sets : (script : Script) (n k i : ℕ) (A : State) → k ≤ n → (run_by script k i A).last ≡ led k (sets_of (run_by script n i A)) A
  by_sets script n zero i A low = refl
  by_sets script zero (suc k) i A low = absurd (omega (arith, low))
  by_sets script (suc n) (suc k) i A low =
      let less : k ≤ n = omega (arith, low) in
      let o : Outcome = does specification.program turns script i A nothing_bound [] specification.main in
      by_step k i A o.result o.instances (λ U. run_by script k (suc i) (fire A U)) (λ U. run_by script n (suc i) (fire A U)) (λ U. by_sets script n k (suc i) (fire A U) less)

  pub last_alike : (s t : Script) (n k : ℕ) → k ≤ n → run specification turns s n ≡ run specification turns t n → (run specification turns s k).last ≡ (run specification turns t k).last
  last_alike s t n k low same =
      by_sets s n k 1 specification.initial low ∙ ap (λ (r : Run). led k (sets_of r) specification.initial) same ∙ sym (by_sets t n k 1 specification.initial low)

  pub wrong_alike : (right rests : State → Bool) (s t : Script) (f : Fault) (step : ℕ) → run specification turns s (steps_to f step) ≡ run specification turns t (steps_to f step)
      → GoesWrongIn specification turns right rests t f step → GoesWrongIn specification turns right rests s f step
  wrong_alike right rests s t f step same h = subst (EndsSo right (IsDeadlock specification turns rests) f step) (sym same) h

  pub stays_alike : (within : State → Bool) (s t : Script) (f : Fault) (step : ℕ) → run specification turns s (steps_to f step) ≡ run specification turns t (steps_to f step)
      → StaysWithin specification turns within t step → StaysWithin specification turns within s step
  stays_alike within s t f step same stays k less =
      ap within (last_alike s t (steps_to f step) k (low_step f step k less) same) ∙ stays k less
    where
      low_step : (f : Fault) (step k : ℕ) → k < step → k ≤ steps_to f step
      low_step fault.Exhausted step k less = omega (arith, less)
      low_step fault.Inconsistent step k less = omega (arith, less)
      low_step fault.Wrong step k less = omega (arith, less)
      low_step fault.Deadlock step k less = omega (arith, less)
