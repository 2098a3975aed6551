-- Definition. Runs: the main rule's body, once in each step.
--     IsRunFrom program turns main n i A sets end last      from the state A before step i at most
--                                                           n more steps may fire these sets, for
--                                                           any choices, and end so and in this
--                                                           state
--     run_from program turns main script n i A              what they do under a script
--     IsRun, run                                            the same of a specification: step 1 is
--                                                           done in its initial state
--     step specification turns script i A                   what the step with number i yields from
--                                                           the state A under a script
--     IsStep specification turns script i A B               it yields a consistent set, which leads
--                                                           to the state B
--     IsAfter specification turns script n A                the run of n steps comes to its limit,
--                                                           in the state A
--     ScriptedRuns, FreeRuns      each run under a script is a run for some choices, and each run
--                                 for some choices is one under some script
use Rattle.std.specs.Prelude.{◌≡◌, ℕ, zero, suc, cond, List, [], ◌∷◌, map}
use Rattle.asm_state.specs.Location.{State}
use Rattle.asm_state.specs.Updates.{UpdateSet, IsConsistent, is_consistent, fire}
use Rattle.asm_syntax.specs.Tree.{Name, Rule}
use Rattle.asm_meaning.specs.Program.{Program, nothing_bound}
use Rattle.asm_meaning.specs.Value.{nesting}
use Rattle.asm_meaning.specs.Yields.{Path, Result, Gives, Exhausted, Yields}
use Rattle.asm_reader.specs.ScriptLines.{Script}
use Rattle.asm_meaning.specs.Does.{Outcome, does}
use Rattle.asm_meaning.specs.Scripts.{IsUnrepeated}
use Rattle.asm_meaning.specs.Ranks.{CallsBelow, IsRanked}

pub data End : Type 0 where
  AtLimit : End
  AtExhausted : (step : ℕ) → Path → End
  AtFault : (step : ℕ) → UpdateSet → End

-- a step whose set was fired, with its instances
pub record FiredStep : Type 0 where
  pub set : UpdateSet
  pub instances : ℕ

-- the steps that were fired, how the run ended, and the state after the last fired step
pub record Run : Type 0 where
  pub steps : List FiredStep
  pub end : End
  pub last : State

abbrev pub sets_of : Run → List UpdateSet
sets_of r = map (λ (step : FiredStep). step.set) r.steps

abbrev pub ended : End → State → Run
ended end A = record { steps = []; end = end; last = A }

abbrev pub fired : UpdateSet → (instances : ℕ) → Run → Run
fired U n rest = record { steps = record { set = U; instances = n } ∷ rest.steps; end = rest.end; last = rest.last }

module _ (program : Program) (turns : ℕ) (main : Rule) where
  pub data IsRunFrom : ℕ → ℕ → State → List UpdateSet → End → State → Type 0 where
    at_limit : {i : ℕ} {A : State} → IsRunFrom zero i A [] AtLimit A
    at_exhausted : {n i : ℕ} {A : State} {q : Path}
        → Yields program turns A nothing_bound [] main (Exhausted q) → IsRunFrom (suc n) i A [] (AtExhausted i q) A
    at_fault : {n i : ℕ} {A : State} {U : UpdateSet}
        → Yields program turns A nothing_bound [] main (Gives U) → ¬ (IsConsistent U) → IsRunFrom (suc n) i A [] (AtFault i U) A
    step_then : {n i : ℕ} {A : State} {U : UpdateSet} {sets : List UpdateSet} {end : End} {last : State}
        → Yields program turns A nothing_bound [] main (Gives U) → IsConsistent U → IsRunFrom n (suc i) (fire A U) sets end last
        → IsRunFrom (suc n) i A (U ∷ sets) end last

  -- a step by what it yields, and the run after it
  abbrev pub step_and : Result → (instances : ℕ) → ℕ → State → (UpdateSet → Run) → Run
  step_and (Exhausted q) m i A rest = ended (AtExhausted i q) A
  step_and (Gives U) m i A rest = cond (is_consistent U) (fired U m (rest U)) (ended (AtFault i U) A)

  abbrev pub run_from : Script → ℕ → ℕ → State → Run
  run_from script zero i A = ended AtLimit A
  run_from script (suc n) i A =
      let o : Outcome = does program turns script i A nothing_bound [] main in
      step_and o.result o.instances i A (λ U. run_from script n (suc i) (fire A U))

-- what a specification says: its declarations, its initial state and the body of its main rule
pub record Specification : Type 0 where
  pub program : Program
  pub initial : State
  pub main : Rule

abbrev pub IsRun : Specification → (turns limit : ℕ) → List UpdateSet → End → State → Type 0
IsRun specification turns limit sets end last =
    IsRunFrom specification.program turns specification.main limit 1 specification.initial sets end last

abbrev pub run : Specification → (turns : ℕ) → Script → (limit : ℕ) → Run
run specification turns script limit =
    run_from specification.program turns specification.main script limit 1 specification.initial

-- ---- a step by itself

abbrev pub step : Specification → (turns : ℕ) → Script → ℕ → State → Outcome
step specification turns script i A = does specification.program turns script i A nothing_bound [] specification.main

abbrev pub IsStep : Specification → (turns : ℕ) → Script → ℕ → (A B : State) → Type 0
IsStep specification turns script i A B = (U : UpdateSet) × ((step specification turns script i A).result ≡ Gives U) × IsConsistent U × (B ≡ fire A U)

abbrev pub IsAfter : Specification → (turns : ℕ) → Script → ℕ → State → Type 0
IsAfter specification turns script n A = ((run specification turns script n).end ≡ AtLimit) × ((run specification turns script n).last ≡ A)

-- ---- runs under scripts, and for any choices

abbrev pub ScriptedRuns : Type 0
ScriptedRuns =
    (program : Program) (rank : Name → ℕ) (turns : ℕ) (main : Rule) (script : Script) (n i : ℕ) (A : State)
    → IsRanked program rank → CallsBelow program rank nesting main
    → let r : Run = run_from program turns main script n i A in IsRunFrom program turns main n i A (sets_of r) r.end r.last

abbrev pub FreeRuns : Type 0
FreeRuns =
    (program : Program) (rank : Name → ℕ) (turns : ℕ) (main : Rule) (n i : ℕ) (A : State) (sets : List UpdateSet) (end : End) (last : State)
    → IsRanked program rank → CallsBelow program rank nesting main → IsRunFrom program turns main n i A sets end last
    → (script : Script) × IsUnrepeated script
    × (let r : Run = run_from program turns main script n i A in (sets_of r ≡ sets) × (r.end ≡ end) × (r.last ≡ last))
