-- Free. Each way that a step of a run can go.
use Rattle.std.proofs.Common.{◌≡◌, ℕ, suc, ◌+◌, ◌-◌, ◌<◌, ◌≤◌, Bool, true, false, cond, List, [], ◌++◌, Option, Some, None, Result, Ok, Err, refl, sym, ap, subst, ◌∙◌, arith}
use Rattle.std.specs.Io.KnownBytes.{Appends}
use Rattle.std.proofs.lemmas.List.{append-nil}
use Rattle.std.proofs.lemmas.Bool.{false_from_ne_true}
use Rattle.asm_state.specs.declared.value.Value.{Value}
use Rattle.asm_state.specs.Location.{Location, Proper, Stray, State}
use Rattle.asm_state.specs.Signature.{initial_state, state_of}
use Rattle.asm_state.specs.Updates.{UpdateSet, IsConsistent, is_consistent, fire, Clash, Outside, IsFirstFault}
use Rattle.asm_state.proofs.UpdateLemmas.Faults.{fault_laws}
use Rattle.asm_state.proofs.UpdateLemmas.Updates.{test_laws}
use Rattle.asm_syntax.specs.SourceTree.{Spec}
use Rattle.asm_check.specs.Faults.{IsWellFormed, inits}
use Rattle.asm_check.specs.Shapes.{shape_of}
use Rattle.asm_meaning.specs.Declarations.{program_of, main_rule}
use Rattle.asm_reader.specs.ScriptLines.{Script}
use Rattle.asm_meaning.specs.Does.{Outcome}
use Rattle.asm_meaning.specs.Yields.{Path, Result as Yielded, Gives, Exhausted}
use Rattle.asm_meaning.specs.Run as run
use Rattle.asm_meaning.specs.Run.{Run, run_from, step_and, ended, fired, AtLimit, AtExhausted, AtFault}
use Rattle.asm_run.specs.declared.end.End.{End}
use Rattle.asm_run.specs.declared.end.End.TheVariants.{Limit}
use Rattle.asm_run.specs.declared.end.End.TheVariants as end
use Rattle.asm_run.specs.declared.error.RunError.{RunError}
use Rattle.asm_run.specs.declared.error.RunError.TheVariants as error
use Rattle.asm_run.specs.Ends.{end_words_with}
use Rattle.asm_run.specs.Sink.{AppendsFront}
use Rattle.asm_run.specs.Trace.{TraceNames, IsEndText, at_step, end_line, step_text}
use Rattle.asm_run.specs.Written.{names_in, locations_in, contents_text}
use Rattle.asm_run.specs.Headline.{IsReturned, book_run}
use Rattle.asm_run.specs.code.Step.{EndsBy, main_outcome, AreSized, IsFired, IsStopped, Finishes}
use Rattle.asm_run.specs.code.RunSoFar.{IsReached, RunsSteps, GoesOnFrom}
use Rattle.asm_run.proofs.EndTexts.{line_of_end}
use Rattle.asm_run.proofs.TextLemmas.StepText.{state_written}
use Rattle.asm_run.proofs.RunSoFar.{reached_more, cut_in_step, written_at_end, cut_at_end, whole_steps}

-- nothing is added
pub Appends-none : (bytes : Option (List ℕ)) → Appends bytes bytes []
Appends-none None = tt
Appends-none (Some xs) = sym (append-nil xs)

-- ---- one step of a run

module _ (s : Spec) (turns : ℕ) (script : Script) where
  abbrev left : ℕ → ℕ → State → Run
  left n i A = run_from (program_of s) turns (main_rule s (inits s)) script n i A

  module _ (n i : ℕ) (contents : List Value) (U : UpdateSet) (gives : (main_outcome s turns script i contents).result ≡ Gives U) where
    abbrev before : State
    before = state_of (shape_of s) contents

    abbrev instances : ℕ
    instances = (main_outcome s turns script i contents).instances

    abbrev by_test : Bool → Run
    by_test b = cond b (fired U instances (left n (suc i) (fire before U))) (ended (AtFault i U) before)

    a_step : left (suc n) i before ≡ by_test (is_consistent U)
    a_step = ap (λ (r : Yielded). step_and (program_of s) turns (main_rule s (inits s)) r instances i before (λ V. left n (suc i) (fire before V))) gives

    fires : (next : List Value) → IsConsistent U → state_of (shape_of s) next ≡ fire before U → left (suc n) i before ≡ fired U instances (left n (suc i) (state_of (shape_of s) next))
    fires next consistent is = a_step ∙ ap by_test ((test_laws.consistency U).1 consistent) ∙ ap (λ (A : State). fired U instances (left n (suc i) A)) (sym is)

    stops : ¬ (IsConsistent U) → left (suc n) i before ≡ ended (AtFault i U) before
    stops faulty = a_step ∙ ap by_test (false_from_ne_true (is_consistent U) (λ e. faulty ((test_laws.consistency U).0 e)))

  -- a main rule that is exhausted ends the run
  exhausts : (n i : ℕ) (contents : List Value) (q : Path) → (main_outcome s turns script i contents).result ≡ Exhausted q
      → left (suc n) i (state_of (shape_of s) contents) ≡ ended (AtExhausted i q) (state_of (shape_of s) contents)
  exhausts n i contents q is =
      ap (λ (r : Yielded). step_and (program_of s) turns (main_rule s (inits s)) r (main_outcome s turns script i contents).instances i (state_of (shape_of s) contents)
      (λ V. left n (suc i) (fire (state_of (shape_of s) contents) V))) is

-- a set with a fault isn't consistent
first_fault_is_faulty : (U : UpdateSet) (f : _) → IsFirstFault U f → ¬ (IsConsistent U)
first_fault_is_faulty U (Clash (Proper f vs) r) h consistent = (fault_laws.no_fault U).0 consistent (Proper f vs) h.0.is_faulty
first_fault_is_faulty U (Clash (Stray f) r) h consistent = absurd h
first_fault_is_faulty U (Outside f) h consistent = (fault_laws.no_fault U).0 consistent (Stray f) h.is_faulty

-- nor is one by which a run ends
returned_is_faulty : (i : ℕ) (U : UpdateSet) (e : End) → IsReturned (AtFault i U) e → ¬ (IsConsistent U)
returned_is_faulty i U end.Limit is = absurd is
returned_is_faulty i U (end.Exhausted j p) is = absurd is
returned_is_faulty i U (end.Clash j f vs v w) is = first_fault_is_faulty U (Clash (Proper f vs) (record { least = v; greatest = w })) is.1
returned_is_faulty i U (end.Outside j f) is = first_fault_is_faulty U (Outside f) is.1

-- ---- from one step to the next

module _ (s : Spec) (good : IsWellFormed s) (turns : ℕ) (script : Script) (steps made : ℕ) (contents : List Value) (count : ℕ) (old mid : Option (List ℕ)) (failed : Bool)
    (goes : GoesOnFrom s turns script steps made contents count old mid failed) where
  abbrev called : TraceNames
  called = names_in s

  abbrev locations : List Location
  locations = locations_in s

  abbrev left_of : ℕ → ℕ → List Value → Run
  left_of n i values = left s turns script n i (state_of (shape_of s) values)

  abbrev now : Bool → Option (List ℕ) → Result End RunError → Type 0
  now failed new result = RunsSteps called locations old new failed (book_run s turns script steps) result

  -- memory ran out
  pub out_of_memory : now failed mid (Err error.Memory)
  out_of_memory = (whole_steps called locations _ _ _ old mid mid goes.reached (Appends-none mid), goes.is_open)

  -- the last lines, if what is left of the run has come to this end
  module _ (new : Option (List ℕ)) (flag : Bool) (e : _) (end_text : List ℕ) (ends : IsEndText called e end_text) (answer : End) (answers : IsReturned e answer) where
    finished : (result : Result End RunError) → Finishes mid new flag (end_text ++ contents_text s contents) answer result
        → left_of (steps - made) (1 + made) contents ≡ ended e (state_of (shape_of s) contents) → now flag new result
    finished (Ok a) f at_end =
        let r = goes.reached in
        let lines = ap (λ w. end_text ++ w) (state_written s contents good goes.sized.contents_fit) in (
          written_at_end called locations _ _ _ old mid new r e (state_of (shape_of s) contents) at_end end_text ends (subst (λ t. Appends mid new t) lines f.0),
          subst (λ v. IsReturned v a) (sym (r.end ∙ ap (λ (v : Run). v.end) at_end)) (subst (λ v. IsReturned e v) (sym f.2) answers),
          f.1,
        )
    finished (Err error.Memory) f at_end = (whole_steps called locations _ _ _ old mid new goes.reached f.0, f.1)
    finished (Err error.Write) f at_end =
        let lines = ap (λ w. end_text ++ w) (state_written s contents good goes.sized.contents_fit) in
        (cut_at_end called locations _ _ _ old mid new goes.reached e (state_of (shape_of s) contents) at_end end_text ends (subst (λ t. AppendsFront mid new t) lines f.0), f.1)
    finished (Err error.Limits) f at_end = f
    finished (Err (error.Read refusal)) f at_end = f
    finished (Err (error.Check refusal)) f at_end = f
    finished (Err (error.Script refusal)) f at_end = f

  -- the last lines are those of the end that is returned
  ended_so : (new : Option (List ℕ)) (flag : Bool) (e : run.End) (answer : End) → IsReturned e answer → (result : Result End RunError)
      → Finishes mid new flag (end_line (end_words_with called at_step answer) ++ contents_text s contents) answer result
      → left_of (steps - made) (1 + made) contents ≡ ended e (state_of (shape_of s) contents) → now flag new result
  ended_so new flag e answer is result = finished new flag e (end_line (end_words_with called at_step answer)) (line_of_end called e answer is) answer is result

  pub at_limit : (new : Option (List ℕ)) (flag : Bool) (result : Result End RunError) → steps ≤ made
      → Finishes mid new flag (end_line (end_words_with called at_step Limit) ++ contents_text s contents) Limit result → now flag new result
  at_limit new flag result all f =
      let none : steps - made ≡ 0 = omega arith in
      ended_so new flag AtLimit Limit refl result f (ap (λ n. left_of n (1 + made) contents) none)

  module _ (more : made < steps) (step : ℕ) (is : step ≡ 1 + made) where
    one_left : steps - made ≡ suc (steps - (made + 1))
    one_left = omega arith

    -- the outcome of the main rule in this step
    abbrev outcome_at : ℕ → Outcome
    outcome_at i = main_outcome s turns script i contents

    module _ (new : Option (List ℕ)) (flag : Bool) (result : Result End RunError) (answer : End)
        (finish : Finishes mid new flag (end_line (end_words_with called at_step answer) ++ contents_text s contents) answer result) where
      stopped_by : (r : Yielded) → (outcome_at (1 + made)).result ≡ r → EndsBy (1 + made) r answer → now flag new result
      stopped_by (Gives U) gives is_end =
          ended_so new flag (AtFault (1 + made) U) answer is_end result finish
          (ap (λ n. left_of n (1 + made) contents) one_left
          ∙ stops s turns script (steps - (made + 1)) (1 + made) contents U gives (returned_is_faulty (1 + made) U answer is_end))
      stopped_by (Exhausted q) gives is_end =
          ended_so new flag (AtExhausted (1 + made) q) answer is_end result finish
          (ap (λ n. left_of n (1 + made) contents) one_left
          ∙ exhausts s turns script (steps - (made + 1)) (1 + made) contents q gives)

    -- the run ends at this step
    pub at_stop : (new : Option (List ℕ)) (flag : Bool) (result : Result End RunError) (next : List Value) (answer : End) → IsStopped s turns script step contents next answer
        → Finishes mid new flag (end_line (end_words_with called at_step answer) ++ contents_text s next) answer result → now flag new result
    at_stop new flag result next answer stopped finish =
        stopped_by new flag result answer
        (subst (λ v. Finishes mid new flag (end_line (end_words_with called at_step answer) ++ contents_text s v) answer result) stopped.1 finish)
        (outcome_at (1 + made)).result refl
        (subst (λ i. EndsBy i (outcome_at i).result answer) is stopped.0)

    module _ (next : List Value) (text : List ℕ) (step_fired : IsFired s turns script step contents next text) where
      abbrev U : UpdateSet
      U = step_fired.set

      abbrev instances_of : ℕ
      instances_of = (outcome_at (1 + made)).instances

      goes_on_by : left_of (steps - made) (1 + made) contents ≡ fired U instances_of (left_of (steps - (made + 1)) (suc (1 + made)) next)
      goes_on_by =
          let gives : (outcome_at (1 + made)).result ≡ Gives U = subst (λ i. (outcome_at i).result ≡ Gives U) is step_fired.gives in
          ap (λ n. left_of n (1 + made) contents) one_left
          ∙ fires s turns script (steps - (made + 1)) (1 + made) contents U gives next step_fired.consistent step_fired.fired

      text_is : text ≡ step_text called locations (1 + made) (record { set = U; instances = instances_of })
      text_is = step_fired.written ∙ ap (λ i. step_text called locations i (record { set = U; instances = (outcome_at i).instances })) is

      -- the sink failed in the step's text
      pub cut : (new : Option (List ℕ)) (flag : Bool) → AppendsFront mid new text → flag ≡ true → now flag new (Err error.Write)
      cut new flag f failed' = (cut_in_step called locations _ _ _ old mid new goes.reached U instances_of _ goes_on_by (subst (λ t. AppendsFront mid new t) text_is f), failed')

      -- the step is written
      pub goes_on : (new : Option (List ℕ)) (flag : Bool) (new_count : ℕ) → AreSized s next new_count → Appends mid new text → flag ≡ false
          → GoesOnFrom s turns script steps (made + 1) next new_count old new flag
      goes_on new flag new_count sized w is_open =
          let number : suc (1 + made) ≡ 1 + (made + 1) = omega arith in
          let total : Run = book_run s turns script steps in
          record {
            sized = sized;
            is_open = is_open;
            reached = subst (λ i. IsReached called locations total i (left_of (steps - (made + 1)) i next) old new) number
                (reached_more called locations _ _ _ old mid new goes.reached U instances_of _ goes_on_by (subst (λ t. Appends mid new t) text_is w));
          }

-- memory ran out before the first step
pub none_begun : (s : Spec) (turns : ℕ) (script : Script) (steps : ℕ) (bytes : Option (List ℕ)) (failed : Bool) → failed ≡ false
    → RunsSteps (names_in s) (locations_in s) bytes bytes failed (book_run s turns script steps) (Err error.Memory)
none_begun s turns script steps bytes failed is_open = (record { count = 0; appended = Appends-none bytes }, is_open)

-- before the first step
pub begins : (s : Spec) (turns : ℕ) (script : Script) (steps : ℕ) (contents : List Value) (count : ℕ) (bytes : Option (List ℕ)) (failed : Bool)
    → AreSized s contents count → state_of (shape_of s) contents ≡ initial_state (shape_of s) → failed ≡ false → GoesOnFrom s turns script steps 0 contents count bytes bytes failed
begins s turns script steps contents count bytes failed sized initial is_open =
    let all : steps ≡ steps - 0 = omega arith in
    let total : Run = book_run s turns script steps in
    record {
      sized = sized;
      is_open = is_open;
      reached = subst (λ n. IsReached (names_in s) (locations_in s) total 1 (left s turns script n 1 (state_of (shape_of s) contents)) bytes bytes) all
          (subst (λ (A : State). IsReached (names_in s) (locations_in s) total 1 (left s turns script steps 1 A) bytes bytes) (sym initial)
          (record { done = []; number = refl; steps = refl; end = refl; last = refl; written = Appends-none bytes }));
    }
