-- Free. The law of choice over whole runs.
use Rattle.std.proofs.Common.{◌≡◌, ◌≢◌, ℕ, zero, suc, ◌<◌, ◌≤◌, true, false, cond, ◌&&◌, List, [], ◌∷◌, ◌++◌, refl, sym, ap, subst, ◌∙◌, arith}
use Rattle.std.specs.Bool.{nat_eq}
use Rattle.std.specs.List.{filter}
use Rattle.std.specs.Cmp.Lexicographic.{pointwise}
use Rattle.std.proofs.lemmas.Bool.Decides.{not_from_Decides, nat_tests}
use Rattle.asm_state.specs.Location.{State}
use Rattle.asm_state.specs.Updates.{UpdateSet, IsConsistent, is_consistent, fire}
use Rattle.asm_state.proofs.UpdateLemmas.Updates.{test_laws}
use Rattle.asm_syntax.specs.Tree.{Name, Rule}
use Rattle.asm_meaning.specs.Program.{Program, nothing_bound}
use Rattle.asm_meaning.specs.Value.{nesting}
use Rattle.asm_meaning.specs.Yields.{Path, Result, Gives, Exhausted, Yields}
use Rattle.asm_reader.specs.ScriptLines.{Line, Script, pick}
use Rattle.asm_meaning.specs.Does.{does, does_within}
use Rattle.asm_meaning.specs.Scripts.{unrepeated}
use Rattle.asm_meaning.specs.Ranks.{CallsBelow, IsRanked}
use Rattle.asm_meaning.specs.Run.{End, AtLimit, AtExhausted, AtFault, Run, sets_of, ended, fired, IsRunFrom, at_limit, at_exhausted, at_fault, step_then, step_and, run_from, ScriptedRuns, FreeRuns}
use Rattle.asm_meaning.proofs.ChoiceLemmas.ScriptedIsFree.{by_test, scripted_is_free}
use Rattle.asm_meaning.proofs.ChoiceLemmas.FreeHasScript.{has_script, not_true}
use Rattle.asm_reader.specs.ExactLines.{exactly}
use Rattle.asm_reader.proofs.ScriptLemmas.MoreLines.{pick_line}
use Rattle.asm_meaning.proofs.ChoiceLemmas.UnrepeatedScripts.{unrepeated_script}

-- a run without its instances
record Course : Type 0 where
  sets : List UpdateSet
  end : End
  last : State

abbrev course : List UpdateSet → End → State → Course
course sets end last = record { sets = sets; end = end; last = last }

abbrev course_of : Run → Course
course_of r = course (sets_of r) r.end r.last

abbrev onwards : UpdateSet → Course → Course
onwards U c = course (U ∷ c.sets) c.end c.last

-- a step, and the course after it
abbrev course_and : Result → ℕ → State → (UpdateSet → Course) → Course
course_and (Exhausted q) i A rest = course [] (AtExhausted i q) A
course_and (Gives U) i A rest = cond (is_consistent U) (onwards U (rest U)) (course [] (AtFault i U) A)

module _ (program : Program) (turns : ℕ) (main : Rule) where
  abbrev course_from : Script → ℕ → ℕ → State → Course
  course_from script zero i A = course [] AtLimit A
  course_from script (suc n) i A = course_and (does program turns script i A nothing_bound [] main).result i A (λ U. course_from script n (suc i) (fire A U))

  course_of_step : (r : Result) (m i : ℕ) (A : State) (rest : UpdateSet → Run)
      → course_of (step_and program turns main r m i A rest) ≡ course_and r i A (λ U. course_of (rest U))
  course_of_step (Exhausted q) m i A rest = refl
  course_of_step (Gives U) m i A rest =
      elim (is_consistent U) as (λ b. course_of (cond b (fired U m (rest U)) (ended (AtFault i U) A)) ≡ cond b (onwards U (course_of (rest U))) (course [] (AtFault i U) A)) [ true ↦ refl | false ↦ refl ]

  course_is : (script : Script) (n i : ℕ) (A : State) → course_of (run_from program turns main script n i A) ≡ course_from script n i A
  course_is script zero i A = refl
  course_is script (suc n) i A =
      course_of_step (does program turns script i A nothing_bound [] main).result _ i A (λ U. run_from program turns main script n (suc i) (fire A U))
      ∙ (λ k. course_and (does program turns script i A nothing_bound [] main).result i A (λ U. course_is script n (suc i) (fire A U) k))

  abbrev IsCourse : ℕ → ℕ → State → Course → Type 0
  IsCourse n i A c = IsRunFrom program turns main n i A c.sets c.end c.last

  step_is : {n i : ℕ} {A : State} (r : Result) (rest : UpdateSet → Course)
      → Yields program turns A nothing_bound [] main r → ((U : UpdateSet) → IsCourse n (suc i) (fire A U) (rest U))
      → IsCourse (suc n) i A (course_and r i A rest)
  step_is (Exhausted q) rest y ys = at_exhausted y
  step_is {n} {i} {A} (Gives U) rest y ys =
      by_test (IsCourse (suc n) i A) (is_consistent U) _ _
      (λ h. step_then y ((test_laws.consistency U).0 h) (ys U))
      (λ h. at_fault y (not_from_Decides (is_consistent U) (test_laws.consistency U) h))

  module _ (rank : Name → ℕ) (ranked : IsRanked program rank) (c : CallsBelow program rank nesting main) where
    course_may_be : (script : Script) (n i : ℕ) (A : State) → IsCourse n i A (course_from script n i A)
    course_may_be script zero i A = at_limit
    course_may_be script (suc n) i A =
        step_is _ _ (scripted_is_free program rank turns script i A nothing_bound [] main ranked c)
        (λ U. course_may_be script n (suc i) (fire A U))

pub scripted_runs : ScriptedRuns
scripted_runs program rank turns main script n i A ranked c =
    subst (IsCourse program turns main n i A) (sym (course_is program turns main script n i A)) (course_may_be program turns main rank ranked c script n i A)

-- ---- the script of a whole run

-- the lines of one step
abbrev of_step : ℕ → List Line → List Line
of_step i s = filter (λ (line : Line). nat_eq line.step i) s

itself : (k : ℕ) → nat_eq k k ≡ true
itself k = grind (arith, nat_tests)

-- before the lines of later steps, the lines of a step are what the step picks
pick_here : (i : ℕ) (s rest : List Line) (q : Path) → pick (exactly rest) i q ≡ 0 → pick (exactly (of_step i s ++ rest)) i q ≡ pick (exactly s) i q
pick_here i [] rest q none = none
pick_here i (line ∷ s) rest q none =
    elim (nat_eq line.step i) as (λ b. nat_eq line.step i ≡ b → pick (exactly (cond b (line ∷ of_step i s) (of_step i s) ++ rest)) i q ≡ cond (b && pointwise nat_eq line.path q) line.choice (pick (exactly s) i q)) [
      | true ↦ λ e.
          pick_line line (of_step i s ++ rest) i q
          ∙ ap (λ b. cond (b && pointwise nat_eq line.path q) line.choice (pick (exactly (of_step i s ++ rest)) i q)) e
          ∙ ap (cond (pointwise nat_eq line.path q) line.choice) (pick_here i s rest q none)
      | false ↦ λ e. pick_here i s rest q none
    ] refl
    ∙ sym (pick_line line s i q)

-- and other steps pick from the rest
pick_elsewhere : (i j : ℕ) (s rest : List Line) (q : Path) → i ≢ j → pick (exactly (of_step i s ++ rest)) j q ≡ pick (exactly rest) j q
pick_elsewhere i j [] rest q apart = refl
pick_elsewhere i j (line ∷ s) rest q apart =
    elim (nat_eq line.step i) as (λ b. nat_eq line.step i ≡ b → pick (exactly (cond b (line ∷ of_step i s) (of_step i s) ++ rest)) j q ≡ pick (exactly rest) j q) [
      | true ↦ λ e.
          pick_line line (of_step i s ++ rest) j q
          ∙ ap (λ b. cond (b && pointwise nat_eq line.path q) line.choice (pick (exactly (of_step i s ++ rest)) j q)) (other line.step e)
          ∙ pick_elsewhere i j s rest q apart
      | false ↦ λ e. pick_elsewhere i j s rest q apart
    ] refl
  where
    other : (k : ℕ) → nat_eq k i ≡ true → nat_eq k j ≡ false
    other k e = grind (arith, nat_tests)

module _ (program : Program) (turns : ℕ) (main : Rule) where
  -- scripts that pick alike in a step do alike in it
  does_alike : (s t : Script) (i : ℕ) (A : State) → ((q : Path) → pick s i q ≡ pick t i q)
      → (does program turns s i A nothing_bound [] main).result ≡ (does program turns t i A nothing_bound [] main).result
  unfolding does
  does_alike s t i A alike = λ k. (does_within program turns (λ q. alike q k) nesting main A nothing_bound []).result

  runs_alike : (s t : Script) (n i : ℕ) (A : State) → ((j : ℕ) (q : Path) → i ≤ j → pick s j q ≡ pick t j q) → course_from program turns main s n i A ≡ course_from program turns main t n i A
  runs_alike s t zero i A alike = refl
  runs_alike s t (suc n) i A alike = λ k.
      course_and (does_alike s t i A (λ q. alike i q (omega arith)) k) i A
      (λ U. runs_alike s t n (suc i) (fire A U) (λ j q later. alike j q (omega arith)) k)

  record Scripted (n i : ℕ) (A : State) (free : Course) : Type 0 where
    lines : List Line
    begins : (j : ℕ) (q : Path) → j < i → pick (exactly lines) j q ≡ 0
    is : course_from program turns main (exactly lines) n i A ≡ free

  -- a step with its script, and nothing after it
  last_step : (n i : ℕ) (A : State) (r : Result) (s : List Line) (free : Course) → (does program turns (exactly s) i A nothing_bound [] main).result ≡ r
      → ((rest : UpdateSet → Course) → course_and r i A rest ≡ free) → Scripted (suc n) i A free
  last_step n i A r s free e is = record {
    lines = of_step i s ++ [];
    begins = λ j q h. pick_elsewhere i j s [] q (λ e. absurd (omega arith));
    is = ap (λ r. course_and r i A (λ U. course_from program turns main (exactly (of_step i s ++ [])) n (suc i) (fire A U)))
        (does_alike (exactly (of_step i s ++ [])) (exactly s) i A (λ q. pick_here i s [] q refl) ∙ e)
        ∙ is _;
  }

  -- a step with its script, and the run after it with the script of that
  before : (n i : ℕ) (A : State) (U : UpdateSet) (free : Course) → IsConsistent U → (s : List Line) → (does program turns (exactly s) i A nothing_bound [] main).result ≡ Gives U
      → Scripted n (suc i) (fire A U) free → Scripted (suc n) i A (onwards U free)
  before n i A U free h s e rest =
      let all : Script = exactly (of_step i s ++ rest.lines) in
      record {
        lines = of_step i s ++ rest.lines;
        begins = λ j q below. pick_elsewhere i j s rest.lines q (λ e. absurd (omega arith)) ∙ rest.begins j q (omega arith);
        is = ap (λ r. course_and r i A (λ U. course_from program turns main all n (suc i) (fire A U)))
            (does_alike all (exactly s) i A (λ q. pick_here i s rest.lines q (rest.begins i q (omega arith))) ∙ e)
            ∙ ap (λ b. cond b (onwards U (course_from program turns main all n (suc i) (fire A U))) (course [] (AtFault i U) A)) ((test_laws.consistency U).1 h)
            ∙ ap (λ r. onwards U r)
            (runs_alike all (exactly rest.lines) n (suc i) (fire A U) (λ j q later. pick_elsewhere i j s rest.lines q (λ e. absurd (omega arith))) ∙ rest.is);
      }

  module _ (rank : Name → ℕ) (ranked : IsRanked program rank) (c : CallsBelow program rank nesting main) where
    script_of : {r : Result} (i : ℕ) (A : State) → Yields program turns A nothing_bound [] main r → (s : List Line) × ((does program turns (exactly s) i A nothing_bound [] main).result ≡ r)
    script_of {r} i A y = has_script program rank turns i A nothing_bound [] main r ranked c y

    scripted : {n i : ℕ} {A : State} {sets : List UpdateSet} {end : End} {last : State} → IsRunFrom program turns main n i A sets end last → Scripted n i A (course sets end last)
    scripted (at_limit {i = i}) = record { lines = []; begins = λ j q h. refl; is = refl }
    scripted (at_exhausted {n = n} {i = i} {A = A} {q = q} y) =
        last_step n i A (Exhausted q) (script_of i A y).0 _ (script_of i A y).1 (λ rest. refl)
    scripted (at_fault {n = n} {i = i} {A = A} {U = U} y h) =
        last_step n i A (Gives U) (script_of i A y).0 _ (script_of i A y).1
        (λ rest. ap (λ b. cond b (onwards U (rest U)) (course [] (AtFault i U) A)) (not_true (is_consistent U) (test_laws.consistency U) h))
    scripted (step_then {n = n} {i = i} {A = A} {U = U} {sets = sets} {end = end} {last = last} y h ys) =
        let one = script_of i A y in
        let rest : Scripted n (suc i) (fire A U) (course sets end last) = scripted ys in
        before n i A U (course sets end last) h one.0 one.1 rest

pub free_runs : FreeRuns
free_runs program rank turns main n i A sets end last ranked c r =
    let s : Scripted program turns main n i A (course sets end last) = scripted program turns main rank ranked c r in
    let script : Script = exactly s.lines in
    let one = unrepeated_script script in
    let is : course_of (run_from program turns main (unrepeated script) n i A) ≡ course sets end last =
    course_is program turns main (unrepeated script) n i A
    ∙ runs_alike program turns main (unrepeated script) script n i A (λ j q later. one.picks j q)
    ∙ s.is in
    (unrepeated script, one.is_unrepeated, (ap (λ c. c.sets) is, ap (λ c. c.end) is, ap (λ c. c.last) is))
