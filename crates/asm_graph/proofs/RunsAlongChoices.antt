-- Free. Runs along choices that lead to a state.
--     comes_on                    a run that comes to a state goes on from there
--     trail_comes, trail_before   a run under a script that makes the choices of the steps that
--                                 lead to a state comes to it, and stays within before
--     led_reached                 so that a run comes to each state that choices lead to
use Rattle.std.proofs.Common.{◌≡◌, ℕ, zero, suc, ◌+◌, ◌<◌, Bool, true, cond, List, [], ◌∷◌, length, inl, inr, sym, ap, subst, ◌∙◌, arith}
use Rattle.std.proofs.lemmas.Bool.{cases_lt}
use Rattle.asm_state.specs.Location.{State}
use Rattle.asm_state.specs.Updates.{UpdateSet, IsConsistent, fire}
use Rattle.asm_state.proofs.UpdateLemmas.Updates.{test_laws}
use Rattle.asm_reader.specs.ExactLines.{exactly}
use Rattle.asm_reader.specs.ScriptLines.{Script}
use Rattle.asm_meaning.specs.Does.{Outcome, does}
use Rattle.asm_meaning.specs.Program.{nothing_bound}
use Rattle.asm_meaning.specs.Run.{Run, AtLimit, AtFault, Specification, run_from, step_and, fired, ended}
use Rattle.asm_meaning.specs.Yields.{Result, Gives}
use Rattle.asm_explore.specs.declared.outcomes.listed_outcome.Choice.{Choice}
use Rattle.asm_explore.specs.ExplorationResults.{IsReachedBy}
use Rattle.asm_explore.specs.code.OutcomeLists.{Situation, Each}
use Rattle.asm_explore.specs.code.ChoicePaths.{HaveOwnPaths}
use Rattle.asm_explore.specs.code.ReachedStates.{steps_from, LeadTo, MakesAll}
use Rattle.asm_explore.specs.ChoiceLines.{lines_of}
use Rattle.asm_explore.specs.Search.{LeadsOn}
use Rattle.asm_graph.specs.code.GraphSoFar.{IsLed}

record Same (r q : Run) : Type 0 where
  end : r.end ≡ q.end
  last : r.last ≡ q.last

module _ (specification : Specification) (turns : ℕ) (script : Script) where
  abbrev runs : ℕ → ℕ → State → Run
  runs n i A = run_from specification.program turns specification.main script n i A

  abbrev step_at : ℕ → Situation
  step_at i = record { script = script; step = i }

  -- that many steps from the first state lead to a state
  abbrev ComesTo : ℕ → State → Type 0
  ComesTo zero B = B ≡ specification.initial
  ComesTo (suc d) B = (C : State) × ComesTo d C × LeadsOn (steps_from specification turns C (step_at (suc d))) C (λ D. D ≡ B)

  -- a step with a consistent set, and a run after it
  step_same : (r : Result) (m i : ℕ) (A : State) (U : UpdateSet) (rest : UpdateSet → Run) (q : Run) → r ≡ Gives U → IsConsistent U → Same (rest U) q
      → Same (step_and specification.program turns specification.main r m i A rest) q
  step_same r m i A U rest q is consistent same =
      subst (λ x. Same (step_and specification.program turns specification.main x m i A rest) q) (sym is)
      (subst (λ b. Same (cond b (fired U m (rest U)) (ended (AtFault i U) A)) q) (sym ((test_laws.consistency U).1 consistent))
      (record { end = same.end; last = same.last }))

  step_on : (k i : ℕ) (A B : State) → LeadsOn (steps_from specification turns A (step_at i)) A (λ D. D ≡ B) → Same (runs (suc k) i A) (runs k (suc i) B)
  step_on k i A B leads =
      let o : Outcome = does specification.program turns script i A nothing_bound [] specification.main in
      step_same o.result o.instances i A leads.set (λ U. runs k (suc i) (fire A U)) (runs k (suc i) B) leads.gives leads.consistent
      (record { end = ap (λ D. (runs k (suc i) D).end) leads.leads; last = ap (λ D. (runs k (suc i) D).last) leads.leads })

  comes_on : (d k : ℕ) (B : State) → ComesTo d B → Same (runs (d + k) 1 specification.initial) (runs k (suc d) B)
  comes_on zero k B is =
      let count : 0 + k ≡ k = omega arith in
      record {
        end = ap (λ n. (runs n 1 specification.initial).end) count ∙ ap (λ D. (runs k 1 D).end) (sym is);
        last = ap (λ n. (runs n 1 specification.initial).last) count ∙ ap (λ D. (runs k 1 D).last) (sym is);
      }
  comes_on (suc d) k B comes =
      let before = comes_on d (suc k) comes.0 comes.1 in
      let step = step_on k (suc d) comes.0 B comes.2 in
      let count : suc d + k ≡ d + suc k = omega arith in
      record {
        end = ap (λ n. (runs n 1 specification.initial).end) count ∙ before.end ∙ step.end;
        last = ap (λ n. (runs n 1 specification.initial).last) count ∙ before.last ∙ step.last;
      }

  -- along the choices that lead to a state
  module _ (within : State → Bool) where
    trail_comes : (back : List (List Choice)) (B : State) → LeadTo specification turns within B back → MakesAll script back → ComesTo (length back) B
    trail_comes [] B is makes = is
    trail_comes (cs ∷ back) B leads makes = (leads.0, trail_comes back leads.0 leads.1 makes.1, leads.3.leads (step_at (suc (length back))) makes.0)

    comes_last : (d : ℕ) (B : State) → ComesTo d B → (runs d 1 specification.initial).last ≡ B
    comes_last d B comes =
        let count : d + 0 ≡ d = omega arith in
        ap (λ n. (runs n 1 specification.initial).last) (sym count) ∙ (comes_on d 0 B comes).last

    comes_end : (d : ℕ) (B : State) → ComesTo d B → (runs d 1 specification.initial).end ≡ AtLimit
    comes_end d B comes =
        let count : d + 0 ≡ d = omega arith in
        ap (λ n. (runs n 1 specification.initial).end) (sym count) ∙ (comes_on d 0 B comes).end

    -- runs that come that way stay within before
    trail_before : (back : List (List Choice)) (B : State) → LeadTo specification turns within B back → MakesAll script back → (k : ℕ) → k < length back
        → within (runs k 1 specification.initial).last ≡ true
    trail_before [] B leads makes k less = absurd (omega (arith, less))
    trail_before (cs ∷ back) B leads makes k less =
        elim (cases_lt k (length back)) [
          | inl below ↦ trail_before back leads.0 leads.1 makes.1 k below
          | inr past ↦
              let same : k ≡ length back = omega (arith, less, past) in
              ap (λ n. within (runs n 1 specification.initial).last) same ∙ ap within (comes_last (length back) leads.0 (trail_comes back leads.0 leads.1 makes.1)) ∙ leads.2
        ]

leads_apart : (specification : Specification) (turns : ℕ) (within : State → Bool) (back : List (List Choice)) (B : State) → LeadTo specification turns within B back → Each HaveOwnPaths back
leads_apart specification turns within [] B leads = tt
leads_apart specification turns within (cs ∷ back) B leads = (leads.3.apart, leads_apart specification turns within back leads.0 leads.1)

-- the script that has a line for each of the choices makes them
pub led_reached : ((back : List (List Choice)) → Each HaveOwnPaths back → MakesAll (exactly (lines_of back)) back)
    → (specification : Specification) (turns : ℕ) (within : State → Bool) (depth : ℕ) (B : State) → IsLed specification turns within depth B → IsReachedBy specification turns within depth B
led_reached makes specification turns within depth B led =
    let back = led.0 in
    let script = exactly (lines_of back) in
    let all = makes back (leads_apart specification turns within back B led.2) in
    let comes = trail_comes specification turns script within back B led.2 all in (
      script,
      length back,
      omega (arith, led.1),
      trail_before specification turns script within back B led.2 all,
      comes_end specification turns script within (length back) B comes,
      comes_last specification turns script within (length back) B comes,
    )
