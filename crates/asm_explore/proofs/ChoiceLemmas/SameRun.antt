-- Free. The run under a script that has a line for each choice of another run is that run.
--     lines_back          the lines of steps are those of the steps in the other order
--     all_apart           the choices of each step lie at paths of their own
--     makes_the_run       a script with a line for each choice makes the run
--     needed_again        so does one with a line for each of them that isn't of a first candidate;
--                         and its run makes the same choices
--     choices_are         the choices of what is asked in each step
use Rattle.std.proofs.Common.{◌++◌, ◌≡◌, ◌∙◌, ℕ, zero, suc, Bool, true, false, cond, List, [], ◌∷◌, length, map, refl, sym, ap, subst, append_assoc, append-nil}
use Rattle.asm_state.specs.Location.{State}
use Rattle.asm_state.specs.Updates.{UpdateSet, is_consistent, fire}
use Rattle.asm_reader.specs.ExactLines.{exactly}
use Rattle.asm_reader.specs.ScriptLines.{Script}
use Rattle.asm_meaning.specs.Does.{Outcome, does}
use Rattle.asm_meaning.specs.Program.{nothing_bound}
use Rattle.asm_meaning.specs.Run.{Run, Specification, run, run_from, step_and, fired, ended, AtFault}
use Rattle.asm_meaning.specs.Story.{outcome_of, step_tells}
use Rattle.asm_meaning.specs.Yields.{Result, Gives, Exhausted}
use Rattle.asm_meaning.proofs.Stories.{told_outcomes}
use Rattle.asm_explore.specs.declared.outcomes.listed_outcome.Choice.{Choice}
use Rattle.asm_explore.specs.ChoicePoints.{Asking, after_set, asked, choices_of}
use Rattle.asm_explore.specs.code.OutcomeLists.{Situation, Each, AreTaken}
use Rattle.asm_explore.specs.code.ChoicePaths.{HaveOwnPaths}
use Rattle.asm_explore.specs.code.ReachedStates.{MakesAll, steps_from}
use Rattle.asm_explore.specs.RunChoices.{asked_from, chosen_from, of_run, from_step, lines_from, lines_forward, MakesTheRun}
use Rattle.asm_explore.specs.ChoiceLines.{lines_for, lines_of, needed}
use Rattle.asm_explore.proofs.ScriptLemmas.ScriptToState.{lines_apart, lines_make, needed_make}
use Rattle.asm_explore.proofs.ChoiceLemmas.MadePlaces.{told_placed}
use Rattle.asm_explore.proofs.ChoiceLemmas.TakenStories.{told_again}

-- ---- steps in the other order

-- some steps after others, the last one first
abbrev turned : (back steps : List (List Choice)) → List (List Choice)
turned back [] = back
turned back (cs ∷ steps) = turned (cs ∷ back) steps

turned_lines : (back steps : List (List Choice)) → lines_of (turned back steps) ≡ lines_of back ++ lines_from (suc (length back)) steps
turned_lines back [] = sym (append-nil (lines_of back))
turned_lines back (cs ∷ steps) =
    turned_lines (cs ∷ back) steps ∙ append_assoc (lines_of back) (lines_for (suc (length back)) cs) (lines_from (suc (suc (length back))) steps)

turned_each : (P : List Choice → Type 0) (back steps : List (List Choice)) → Each P back → Each P steps → Each P (turned back steps)
turned_each P back [] h g = h
turned_each P back (cs ∷ steps) h g = turned_each P (cs ∷ back) steps (g.0, h) g.1

-- each step's choices are made in it, if the first of the steps has this number
abbrev pub MakesFrom : Script → (step : ℕ) → List (List Choice) → Type 0
MakesFrom script i [] = Unit {0}
MakesFrom script i (cs ∷ steps) = AreTaken (record { script = script; step = i }) cs × MakesFrom script (suc i) steps

turned_made : (script : Script) (back steps : List (List Choice)) → MakesAll script (turned back steps) → MakesAll script back × MakesFrom script (suc (length back)) steps
turned_made script back [] h = (h, tt)
turned_made script back (cs ∷ steps) h =
    let it = turned_made script (cs ∷ back) steps h in
    (it.0.1, (it.0.0, it.1))

pub lines_back : (steps : List (List Choice)) → lines_of (turned [] steps) ≡ lines_forward steps
lines_back steps = turned_lines [] steps

-- ---- the steps of a run

module _ {X : Type 0} (P : X → Type 0) where
  if_each : (b : Bool) (xs : List X) → Each P xs → Each P (cond b xs [])
  if_each true xs h = h
  if_each false xs h = tt

  after_each : (r : Result) (rest : UpdateSet → List X) → ((U : UpdateSet) → Each P (rest U)) → Each P (after_set r rest)
  after_each (Exhausted q) rest h = tt
  after_each (Gives U) rest h = if_each (is_consistent U) (rest U) (h U)

  module _ (specification : Specification) (turns : ℕ) (its : State → Situation → X) (script : Script) (holds : (A : State) (s : Situation) → P (its A s)) where
    from_each : (left i : ℕ) (A : State) → Each P (from_step specification turns its script left i A)
    from_each zero i A = tt
    from_each (suc left) i A =
        let s : Situation = record { script = script; step = i } in
        (holds A s, after_each (steps_from specification turns A s) (λ U. from_step specification turns its script left (suc i) (fire A U)) (λ U. from_each left (suc i) (fire A U)))

pub all_apart : (specification : Specification) (turns : ℕ) (script : Script) (limit : ℕ) → Each HaveOwnPaths (of_run specification turns (chosen_from specification turns) script limit)
all_apart specification turns script limit =
    from_each HaveOwnPaths specification turns (chosen_from specification turns) script
    (λ A s. (told_placed specification.program turns s.script s.step A nothing_bound [] specification.main).apart) limit 1 specification.initial

-- ---- the choices of what is asked

if_choices : (b : Bool) (xs : List (List Asking)) (ys : List (List Choice)) → map choices_of xs ≡ ys → map choices_of (cond b xs []) ≡ cond b ys []
if_choices true xs ys h = h
if_choices false xs ys h = refl

after_choices : (r : Result) (x : UpdateSet → List (List Asking)) (y : UpdateSet → List (List Choice)) → ((U : UpdateSet) → map choices_of (x U) ≡ y U)
    → map choices_of (after_set r x) ≡ after_set r y
after_choices (Exhausted q) x y h = refl
after_choices (Gives U) x y h = if_choices (is_consistent U) (x U) (y U) (h U)

module _ (specification : Specification) (turns : ℕ) (script : Script) where
  from_choices : (left i : ℕ) (A : State) → map choices_of (from_step specification turns (asked_from specification turns) script left i A) ≡ from_step specification turns (chosen_from specification turns) script left i A
  from_choices zero i A = refl
  from_choices (suc left) i A =
      let s : Situation = record { script = script; step = i } in
      let rest = after_choices (steps_from specification turns A s) (λ U. from_step specification turns (asked_from specification turns) script left (suc i) (fire A U))
      (λ U. from_step specification turns (chosen_from specification turns) script left (suc i) (fire A U)) (λ U. from_choices left (suc i) (fire A U)) in
      (λ j. chosen_from specification turns A s ∷ rest j)

pub choices_are : (specification : Specification) (turns : ℕ) (script : Script) (limit : ℕ)
    → map choices_of (of_run specification turns (asked_from specification turns) script limit) ≡ of_run specification turns (chosen_from specification turns) script limit
choices_are specification turns script limit = from_choices specification turns script limit 1 specification.initial

-- ---- the run again

module _ (specification : Specification) (turns : ℕ) (script other : Script) where
  abbrev run_by : Script → (n i : ℕ) → State → Run
  run_by chosen n i A = run_from specification.program turns specification.main chosen n i A

  abbrev choices_by : (n i : ℕ) → State → List (List Choice)
  choices_by n i A = from_step specification turns (chosen_from specification turns) script n i A

  abbrev TakesStep : (i : ℕ) → State → Type 0
  TakesStep i A = AreTaken (record { script = other; step = i }) (chosen_from specification turns A (record { script = script; step = i }))

  story_alike : (i : ℕ) (A : State) → TakesStep i A → step_tells specification turns other i A ≡ step_tells specification turns script i A
  story_alike i A = told_again specification.program turns script other i i A nothing_bound [] specification.main

  step_alike : (i : ℕ) (A : State) → TakesStep i A
      → does specification.program turns other i A nothing_bound [] specification.main ≡ does specification.program turns script i A nothing_bound [] specification.main
  step_alike i A taken =
      sym (told_outcomes specification.program turns other i A nothing_bound [] specification.main) ∙ ap outcome_of (story_alike i A taken)
      ∙ told_outcomes specification.program turns script i A nothing_bound [] specification.main

  good_alike : (b : Bool) (U : UpdateSet) (m i : ℕ) (A : State) (xs : List (List Choice)) (r q : Run) → (MakesFrom other (suc i) xs → r ≡ q) → MakesFrom other (suc i) (cond b xs [])
      → cond b (fired U m r) (ended (AtFault i U) A) ≡ cond b (fired U m q) (ended (AtFault i U) A)
  good_alike true U m i A xs r q f h = ap (fired U m) (f h)
  good_alike false U m i A xs r q f h = refl

  then_alike : (r : Result) (m i : ℕ) (A : State) (xs : UpdateSet → List (List Choice)) (x y : UpdateSet → Run) → ((U : UpdateSet) → MakesFrom other (suc i) (xs U) → x U ≡ y U)
      → MakesFrom other (suc i) (after_set r xs)
      → step_and specification.program turns specification.main r m i A x ≡ step_and specification.program turns specification.main r m i A y
  then_alike (Exhausted q) m i A xs x y f h = refl
  then_alike (Gives U) m i A xs x y f h = good_alike (is_consistent U) U m i A (xs U) (x U) (y U) (f U) h

  run_alike : (n i : ℕ) (A : State) → MakesFrom other i (choices_by n i A) → run_by other n i A ≡ run_by script n i A
  run_alike zero i A h = refl
  run_alike (suc n) i A h =
      let o : Outcome = does specification.program turns script i A nothing_bound [] specification.main in
      ap (λ (q : Outcome). step_and specification.program turns specification.main q.result q.instances i A (λ U. run_by other n (suc i) (fire A U))) (step_alike i A h.0)
      ∙ then_alike o.result o.instances i A (λ U. choices_by n (suc i) (fire A U)) (λ U. run_by other n (suc i) (fire A U)) (λ U. run_by script n (suc i) (fire A U))
      (λ U. run_alike n (suc i) (fire A U)) h.1

  -- ---- and its choices

  good_steps : (b : Bool) (i : ℕ) (xs ys : List (List Choice)) → (MakesFrom other i ys → xs ≡ ys) → MakesFrom other i (cond b ys []) → cond b xs [] ≡ cond b ys []
  good_steps true i xs ys f h = f h
  good_steps false i xs ys f h = refl

  then_steps : (r : Result) (i : ℕ) (xs ys : UpdateSet → List (List Choice)) → ((U : UpdateSet) → MakesFrom other i (ys U) → xs U ≡ ys U) → MakesFrom other i (after_set r ys)
      → after_set r xs ≡ after_set r ys
  then_steps (Exhausted q) i xs ys f h = refl
  then_steps (Gives U) i xs ys f h = good_steps (is_consistent U) i (xs U) (ys U) (f U) h

  choices_alike : (n i : ℕ) (A : State) → MakesFrom other i (choices_by n i A) → from_step specification turns (chosen_from specification turns) other n i A ≡ choices_by n i A
  choices_alike zero i A h = refl
  choices_alike (suc n) i A h =
      let here = ap (λ s. choices_of (asked s)) (story_alike i A h.0) in
      let same = ap (λ (o : Outcome). o.result) (step_alike i A h.0) in
      let rest = λ (U : UpdateSet). from_step specification turns (chosen_from specification turns) other n (suc i) (fire A U) in
      (λ j. here j ∷ after_set (same j) rest)
      ∙ ap (λ xs. chosen_from specification turns A (record { script = script; step = i }) ∷ xs)
      (then_steps (steps_from specification turns A (record { script = script; step = i })) (suc i) rest (λ U. choices_by n (suc i) (fire A U)) (λ U. choices_alike n (suc i) (fire A U)) h.1)

module _ (specification : Specification) (turns : ℕ) (script : Script) (limit : ℕ) (steps : List (List Choice)) (are : steps ≡ of_run specification turns (chosen_from specification turns) script limit) where
  abbrev run_steps : List (List Choice)
  run_steps = of_run specification turns (chosen_from specification turns) script limit

  abbrev back : List (List Choice)
  back = turned [] run_steps

  apart : Each HaveOwnPaths back
  apart = turned_each HaveOwnPaths [] run_steps tt (all_apart specification turns script limit)

  pub makes_the_run : MakesTheRun specification turns script limit (lines_forward steps)
  makes_the_run =
      let made = turned_made (exactly (lines_of back)) [] run_steps (lines_make back apart) in
      subst (λ it. MakesTheRun specification turns script limit (lines_forward it)) (sym are)
      (subst (MakesTheRun specification turns script limit) (lines_back run_steps)
      (record {
        unrepeated = lines_apart back apart;
        again = run_alike specification turns script (exactly (lines_of back)) limit 1 specification.initial made.1;
      }))

  -- with the lines alone that aren't of first candidates
  pub needed_again : (run specification turns (exactly (needed (lines_forward steps))) limit ≡ run specification turns script limit)
      × (of_run specification turns (chosen_from specification turns) (exactly (needed (lines_forward steps))) limit ≡ steps)
  needed_again =
      let other = exactly (needed (lines_of back)) in
      let made = turned_made other [] run_steps (needed_make back apart) in
      let same : lines_of back ≡ lines_forward steps = lines_back run_steps ∙ ap lines_forward (sym are) in (
        subst (λ ls. run specification turns (exactly (needed ls)) limit ≡ run specification turns script limit) same
            (run_alike specification turns script other limit 1 specification.initial made.1),
        subst (λ ls. of_run specification turns (chosen_from specification turns) (exactly (needed ls)) limit ≡ steps) same
            (choices_alike specification turns script other limit 1 specification.initial made.1 ∙ sym are),
      )
