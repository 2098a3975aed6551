-- Free. Runs along choices that lead to a state.
--     comes_on        a run that comes to a state goes on from there
--     trail_run       a run under a script that makes the choices of the steps that lead to a state
--                     comes to it, and stays within before
--     bad_runs        each script that makes the choices of the steps that lead to a bad step has a
--                     run that goes wrong there
use Rattle.std.proofs.Common.{◌≡◌, ℕ, zero, suc, ◌+◌, ◌-◌, ◌<◌, ◌≤◌, Bool, true, false, cond, List, [], ◌∷◌, length, inl, inr, refl, sym, ap, subst, ◌∙◌, arith}
use Rattle.std.specs.Prelude.{slice_get, Some}
use Rattle.std.proofs.lemmas.Bool.{cases_lt}
use Rattle.asm_state.specs.Location.{State}
use Rattle.asm_state.specs.Signature.{Shape}
use Rattle.asm_state.specs.Updates.{UpdateSet, IsConsistent, is_consistent, fire}
use Rattle.asm_state.proofs.UpdateLemmas.Updates.{test_laws}
use Rattle.asm_reader.specs.ScriptLines.{Script}
use Rattle.asm_meaning.specs.Does.{Outcome, does}
use Rattle.asm_meaning.specs.Program.{nothing_bound}
use Rattle.asm_meaning.specs.Run.{Run, AtLimit, AtFault, AtExhausted, Specification, run, run_from, step_and, fired, ended}
use Rattle.asm_meaning.specs.Yields.{Path, Result, Gives, Exhausted}
use Rattle.asm_explore.specs.declared.search_result.BadStep.{BadStep}
use Rattle.asm_explore.specs.declared.fault.Fault.{Fault}
use Rattle.asm_explore.specs.declared.fault.Fault.TheVariants as fault
use Rattle.asm_explore.specs.declared.outcomes.listed_outcome.Choice.{Choice}
use Rattle.asm_explore.specs.code.PackedNodes.{Node}
use Rattle.asm_explore.specs.code.OutcomeLists.{Situation}
use Rattle.asm_explore.specs.code.ReachedStates.{steps_from, state_at, GoesWrong, LeadTo, MakesAll, GoesWrongSo, IsBad}
use Rattle.asm_explore.specs.Search.{LeadsOn, IsDeadlock, GoesWrongIn}

record Same (r q : Run) : Type 0 where
  end : r.end ≡ q.end
  last : r.last ≡ q.last

inconsistent : (U : UpdateSet) → ¬ (IsConsistent U) → (b : Bool) → is_consistent U ≡ b → is_consistent U ≡ false
inconsistent U faulty true is = absurd (faulty ((test_laws.consistency U).0 is))
inconsistent U faulty false is = is

module _ (specification : Specification) (turns : ℕ) (right rests : State → Bool) (script : Script) where
  abbrev dead : State → Type 0
  dead A = IsDeadlock specification turns rests A

  abbrev runs : ℕ → ℕ → State → Run
  runs n i A = run_from specification.program turns specification.main script n i A

  abbrev step_at : ℕ → Situation
  step_at i = record { script = script; step = i }

  -- N steps from the first state lead to a state
  abbrev ComesTo : ℕ → State → Type 0
  ComesTo zero B = B ≡ specification.initial
  ComesTo (suc d) B = (C : State) × ComesTo d C × LeadsOn (steps_from specification turns C (step_at (suc d))) C (λ D. D ≡ B)

  -- a step with a consistent set, and a run after it
  step_same : (r : Result) (m i : ℕ) (A : State) (U : UpdateSet) (rest : UpdateSet → Run) (q : Run) → r ≡ Gives U → IsConsistent U → Same (rest U) q
      → Same (step_and specification.program turns specification.main r m i A rest) q
  step_same r m i A U rest q is consistent same =
      subst (λ x. Same (step_and specification.program turns specification.main x m i A rest) q) (sym is)
      (subst (λ b. Same (cond b (fired U m (rest U)) (ended (AtFault i U) A)) q) (sym ((test_laws.consistency U).1 consistent))
      (record { end = same.end; last = same.last }))

  step_on : (k i : ℕ) (A B : State) → LeadsOn (steps_from specification turns A (step_at i)) A (λ D. D ≡ B) → Same (runs (suc k) i A) (runs k (suc i) B)
  step_on k i A B leads =
      let o : Outcome = does specification.program turns script i A nothing_bound [] specification.main in
      step_same o.result o.instances i A leads.set (λ U. runs k (suc i) (fire A U)) (runs k (suc i) B) leads.gives leads.consistent
      (record { end = ap (λ D. (runs k (suc i) D).end) leads.leads; last = ap (λ D. (runs k (suc i) D).last) leads.leads })

  comes_on : (d k : ℕ) (B : State) → ComesTo d B → Same (runs (d + k) 1 specification.initial) (runs k (suc d) B)
  comes_on zero k B is =
      let count : 0 + k ≡ k = omega arith in
      record {
        end = ap (λ n. (runs n 1 specification.initial).end) count ∙ ap (λ D. (runs k 1 D).end) (sym is);
        last = ap (λ n. (runs n 1 specification.initial).last) count ∙ ap (λ D. (runs k 1 D).last) (sym is);
      }
  comes_on (suc d) k B comes =
      let before = comes_on d (suc k) comes.0 comes.1 in
      let step = step_on k (suc d) comes.0 B comes.2 in
      let count : suc d + k ≡ d + suc k = omega arith in
      record {
        end = ap (λ n. (runs n 1 specification.initial).end) count ∙ before.end ∙ step.end;
        last = ap (λ n. (runs n 1 specification.initial).last) count ∙ before.last ∙ step.last;
      }

  -- ---- a step that goes wrong

  exhausted_ends : (r : Result) (q : Path) (m i : ℕ) (A : State) (rest : UpdateSet → Run) → r ≡ Exhausted q
      → (step_and specification.program turns specification.main r m i A rest).end ≡ AtExhausted i q
  exhausted_ends r q m i A rest is = ap (λ x. (step_and specification.program turns specification.main x m i A rest).end) is

  fault_ends : (r : Result) (U : UpdateSet) (m i : ℕ) (A : State) (rest : UpdateSet → Run) → r ≡ Gives U → ¬ (IsConsistent U)
      → (step_and specification.program turns specification.main r m i A rest).end ≡ AtFault i U
  fault_ends r U m i A rest is faulty =
      ap (λ x. (step_and specification.program turns specification.main x m i A rest).end) is
      ∙ ap (λ b. (cond b (fired U m (rest U)) (ended (AtFault i U) A)).end) (inconsistent U faulty (is_consistent U) refl)

  -- the run of one step more
  one_more : (d : ℕ) (A : State) → ComesTo d A → Same (run specification turns script (suc d)) (runs 1 (suc d) A)
  one_more d A comes =
      let count : suc d ≡ d + 1 = omega arith in
      subst (λ n. Same (run specification turns script n) (runs 1 (suc d) A)) (sym count) (comes_on d 1 A comes)

  goes_wrong_in : (f : Fault) (d : ℕ) (A : State) → ComesTo d A → GoesWrong right dead f (steps_from specification turns A (step_at (suc d))) A
      → GoesWrongIn specification turns right rests script f (suc d)
  goes_wrong_in fault.Exhausted d A comes h =
      let i = suc d in
      let o : Outcome = does specification.program turns script i A nothing_bound [] specification.main in
      (h.0, (one_more d A comes).end ∙ exhausted_ends o.result h.0 o.instances i A (λ U. runs 0 (suc i) (fire A U)) h.1)
  goes_wrong_in fault.Inconsistent d A comes h =
      let i = suc d in
      let o : Outcome = does specification.program turns script i A nothing_bound [] specification.main in
      (h.0, (one_more d A comes).end ∙ fault_ends o.result h.0 o.instances i A (λ U. runs 0 (suc i) (fire A U)) h.1 h.2, h.2)
  goes_wrong_in fault.Wrong d A comes leads =
      let i = suc d in
      let o : Outcome = does specification.program turns script i A nothing_bound [] specification.main in
      let same : Same (runs 1 i A) (ended AtLimit (fire A leads.set)) =
      step_same o.result o.instances i A leads.set (λ U. runs 0 (suc i) (fire A U)) (ended AtLimit (fire A leads.set)) leads.gives leads.consistent (record { end = refl; last = refl }) in
      ((one_more d A comes).end ∙ same.end, ap right ((one_more d A comes).last ∙ same.last) ∙ leads.leads)
  goes_wrong_in fault.Deadlock d A comes h =
      let count : suc d - 1 ≡ d + 0 = omega arith in
      let here = comes_on d 0 A comes in
      (ap (λ n. (run specification turns script n).end) count ∙ here.end, subst dead (sym (ap (λ n. (run specification turns script n).last) count ∙ here.last)) h)

  -- along the choices that lead to a state
  module _ (within : State → Bool) where
    trail_comes : (back : List (List Choice)) (B : State) → LeadTo specification turns within B back → MakesAll script back → ComesTo (length back) B
    trail_comes [] B is makes = is
    trail_comes (cs ∷ back) B leads makes = (leads.0, trail_comes back leads.0 leads.1 makes.1, leads.3.leads (step_at (suc (length back))) makes.0)

    comes_last : (d : ℕ) (B : State) → ComesTo d B → (runs d 1 specification.initial).last ≡ B
    comes_last d B comes =
        let count : d + 0 ≡ d = omega arith in
        ap (λ n. (runs n 1 specification.initial).last) (sym count) ∙ (comes_on d 0 B comes).last

    -- runs that come that way stay within before
    trail_before : (back : List (List Choice)) (B : State) → LeadTo specification turns within B back → MakesAll script back → (k : ℕ) → k < length back
        → within (runs k 1 specification.initial).last ≡ true
    trail_before [] B leads makes k less = absurd (omega (arith, less))
    trail_before (cs ∷ back) B leads makes k less =
        elim (cases_lt k (length back)) [
          | inl below ↦ trail_before back leads.0 leads.1 makes.1 k below
          | inr past ↦
              let same : k ≡ length back = omega (arith, less, past) in
              ap (λ n. within (runs n 1 specification.initial).last) same ∙ ap within (comes_last (length back) leads.0 (trail_comes back leads.0 leads.1 makes.1)) ∙ leads.2
        ]

    -- and in the state that they come to
    trail_stays : (back : List (List Choice)) (B : State) → LeadTo specification turns within B back → MakesAll script back → within B ≡ true
        → (k : ℕ) → k ≤ length back → within (runs k 1 specification.initial).last ≡ true
    trail_stays back B leads makes inside k low =
        elim (cases_lt k (length back)) [
          | inl less ↦ trail_before back B leads makes k less
          | inr past ↦
              let same : k ≡ length back = omega (arith, low, past) in
              ap (λ n. within (runs n 1 specification.initial).last) same ∙ ap within (comes_last (length back) B (trail_comes back B leads makes)) ∙ inside
        ]

-- a run that comes that way to a state
pub trail_run : (specification : Specification) (turns : ℕ) (within : State → Bool) (script : Script) (back : List (List Choice)) (B : State)
    → LeadTo specification turns within B back → MakesAll script back
    → ((run specification turns script (length back)).end ≡ AtLimit) × ((run specification turns script (length back)).last ≡ B)
    × ((k : ℕ) → k < length back → within (run specification turns script k).last ≡ true)
trail_run specification turns within script back B leads makes =
    let none : State → Bool = λ A. true in
    let comes = trail_comes specification turns none none script within back B leads makes in
    let here = comes_on specification turns none none script (length back) 0 B comes in
    let count : length back ≡ length back + 0 = omega arith in (
      ap (λ n. (run specification turns script n).end) count ∙ here.end,
      comes_last specification turns none none script within (length back) B comes,
      trail_before specification turns none none script within back B leads makes,
    )

pub bad_runs : (specification : Specification) (turns : ℕ) (right rests within : State → Bool) (shape : Shape) (nodes : List Node) (bad : BadStep)
    → IsBad shape specification turns right rests nodes bad → ((n : Node) → slice_get nodes bad.from ≡ Some n → within (state_at shape n) ≡ true)
    → GoesWrongSo specification turns right rests within shape nodes bad
bad_runs specification turns right rests within shape nodes bad is inside = record {
  from = is.from;
  there = is.there;
  apart = is.apart;
  wrong = λ back leads script makes.
      let A = state_at shape is.from in
      let comes = trail_comes specification turns right rests script within back A leads makes.1 in
      let goes = is.wrong (record { script = script; step = suc (length back) }) makes.0 in (
        goes_wrong_in specification turns right rests script bad.fault (length back) A comes goes,
        λ k less. trail_stays specification turns right rests script within back A leads makes.1 (inside is.from is.there) k (omega (arith, less)),
      );
}
