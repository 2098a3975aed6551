-- Free. Runs through known states.
--     layers_are_safe      if states are covered up to a depth, each run of at most that many steps
--                          is fine
--     closure_is_safe      if they are covered at every depth, each run is
use Rattle.std.proofs.Common.{◌≡◌, ℕ, zero, suc, ◌+◌, ◌≤◌, ◌<◌, Bool, true, cond, [], refl, sym, ap, subst, ◌∙◌, arith}
use Rattle.asm_state.specs.Location.{State}
use Rattle.asm_state.specs.Updates.{UpdateSet, IsConsistent, fire}
use Rattle.asm_state.proofs.UpdateLemmas.Updates.{test_laws}
use Rattle.asm_reader.specs.ScriptLines.{Script}
use Rattle.asm_meaning.specs.Does.{Outcome, does}
use Rattle.asm_meaning.specs.Program.{nothing_bound}
use Rattle.asm_meaning.specs.Run.{Run, AtFault, Specification, run_from, step_and, fired, ended}
use Rattle.asm_meaning.specs.Yields.{Result, Gives}
use Rattle.asm_explore.specs.Search.{IsFine, IsSafeUpTo, IsSafe, Covers}

module _ (specification : Specification) (turns : ℕ) (within : State → Bool) (ok : State → Type 0) where
  -- a step with a consistent set, and a fine run after it
  step_fine : (r : Result) (m i : ℕ) (A : State) (U : UpdateSet) (rest : UpdateSet → Run) → r ≡ Gives U → IsConsistent U → IsFine ok (rest U)
      → IsFine ok (step_and specification.program turns specification.main r m i A rest)
  step_fine r m i A U rest is consistent fine =
      subst (λ x. IsFine ok (step_and specification.program turns specification.main x m i A rest)) (sym is)
      (subst (λ b. IsFine ok (cond b (fired U m (rest U)) (ended (AtFault i U) A))) (sym ((test_laws.consistency U).1 consistent)) fine)

  -- its last state is that of the run after it
  step_last : (r : Result) (m i : ℕ) (A : State) (U : UpdateSet) (rest : UpdateSet → Run) → r ≡ Gives U → IsConsistent U
      → (step_and specification.program turns specification.main r m i A rest).last ≡ (rest U).last
  step_last r m i A U rest is consistent =
      ap (λ x. (step_and specification.program turns specification.main x m i A rest).last) is
      ∙ ap (λ b. (cond b (fired U m (rest U)) (ended (AtFault i U) A)).last) ((test_laws.consistency U).1 consistent)

  module _ (depth : ℕ) (known : ℕ → State → Type 0) (covers : Covers specification turns within ok depth known) (script : Script) where
    abbrev runs : ℕ → ℕ → State → Run
    runs n i A = run_from specification.program turns specification.main script n i A

    runs_fine : (n i d : ℕ) (A : State) → d + n ≤ depth → known d A → ((k : ℕ) → k < n → within (runs k i A).last ≡ true) → IsFine ok (runs n i A)
    runs_fine zero i d A low here stays = (refl, covers.right d A (omega (arith, low)) here)
    runs_fine (suc n) i d A low here stays =
        let on = covers.goes_on d A (omega (arith, low)) here (stays 0 (omega arith)) script i in
        let o : Outcome = does specification.program turns script i A nothing_bound [] specification.main in
        step_fine o.result o.instances i A on.set (λ U. runs n (suc i) (fire A U)) on.gives on.consistent
        (runs_fine n (suc i) (suc d) (fire A on.set) (omega (arith, low)) on.leads
        (λ k less. ap within (sym (step_last o.result o.instances i A on.set (λ U. runs k (suc i) (fire A U)) on.gives on.consistent)) ∙ stays (suc k) (omega (arith, less))))

  pub layers_are_safe : (depth : ℕ) (known : ℕ → State → Type 0) → Covers specification turns within ok depth known → IsSafeUpTo specification turns within ok depth
  layers_are_safe depth known covers script limit low stays = runs_fine depth known covers script limit 1 0 specification.initial (omega (arith, low)) covers.begins stays

  pub closure_is_safe : (known : ℕ → State → Type 0) → ((depth : ℕ) → Covers specification turns within ok depth known) → IsSafe specification turns within ok
  closure_is_safe known covers script limit stays = layers_are_safe limit known (covers limit) script limit (omega arith) stays
