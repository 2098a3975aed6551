-- Free. The run of some steps, and runs of more.
--     run_laws      what is said of them
use Rattle.std.proofs.Common.{◌≡◌, ℕ, zero, suc, ◌+◌, ◌-◌, ◌<◌, Bool, true, false, cond, [], refl, ap, sym, ◌∙◌, arith}
use Rattle.std.proofs.lemmas.Bool.{false_from_ne_true}
use Rattle.asm_state.specs.Location.{State}
use Rattle.asm_state.specs.Updates.{UpdateSet, IsConsistent, is_consistent, fire}
use Rattle.asm_state.proofs.UpdateLemmas.Updates.{test_laws}
use Rattle.asm_syntax.specs.Tree.{Rule}
use Rattle.asm_reader.specs.ScriptLines.{Script}
use Rattle.asm_meaning.specs.Does.{Outcome, does}
use Rattle.asm_meaning.specs.Program.{Program, nothing_bound}
use Rattle.asm_meaning.specs.Run.{Run, AtLimit, AtExhausted, AtFault, Specification, run, run_from, step_and, fired, ended, step, IsStep, IsAfter}
use Rattle.asm_meaning.specs.RunLaws.{RunLaws}
use Rattle.asm_meaning.specs.Yields.{Path, Result, Gives, Exhausted}

-- runs that end alike, in one state
abbrev Alike : Run → Run → Type 0
Alike r s = (r.end ≡ s.end) × (r.last ≡ s.last)

alike_then : (r s t : Run) → Alike r s → Alike s t → Alike r t
alike_then r s t h g = (h.0 ∙ g.0, h.1 ∙ g.1)

alike_if : (r s : Run) → r ≡ s → Alike r s
alike_if r s is = (ap (λ (x : Run). x.end) is, ap (λ (x : Run). x.last) is)

module _ (program : Program) (turns : ℕ) (main : Rule) (script : Script) where
  abbrev outcome_at : ℕ → State → Outcome
  outcome_at i A = does program turns script i A nothing_bound [] main

  abbrev from : ℕ → ℕ → State → Run
  from n i A = run_from program turns main script n i A

  -- a run that comes to its limit goes on as one from its last state
  other_rest : (o : Result) (m i : ℕ) (A B : State) (rest other : UpdateSet → Run) (last : Run)
      → ((U : UpdateSet) → (rest U).end ≡ AtLimit → (rest U).last ≡ B → Alike (other U) last)
      → (step_and program turns main o m i A rest).end ≡ AtLimit → (step_and program turns main o m i A rest).last ≡ B
      → Alike (step_and program turns main o m i A other) last
  other_rest (Exhausted q) m i A B rest other last go end is = cc
  other_rest (Gives U) m i A B rest other last go end is = by_test (is_consistent U) end is
    where
      by_test : (b : Bool) → (cond b (fired U m (rest U)) (ended (AtFault i U) A)).end ≡ AtLimit → (cond b (fired U m (rest U)) (ended (AtFault i U) A)).last ≡ B
          → Alike (cond b (fired U m (other U)) (ended (AtFault i U) A)) last
      by_test true e h = go U e h
      by_test false e h = cc

  -- of k steps, of which the first n lead to B
  goes_on : (n k m i j : ℕ) (A B : State) → k ≡ n + m → j ≡ i + n → (from n i A).end ≡ AtLimit → (from n i A).last ≡ B → Alike (from k i A) (from m j B)
  goes_on zero k m i j A B is at end last =
      let whole : k ≡ m = omega (arith, is) in
      let here : i ≡ j = omega (arith, at) in
      alike_if (from k i A) (from m j B) (λ x. from (whole x) (here x) (last x))
  goes_on (suc n) zero m i j A B is at end last = absurd (omega (arith, is))
  goes_on (suc n) (suc k) m i j A B is at end last =
      other_rest (outcome_at i A).result (outcome_at i A).instances i A B (λ V. from n (suc i) (fire A V)) (λ V. from k (suc i) (fire A V)) (from m j B)
      (λ V e h. goes_on n k m (suc i) j (fire A V) B (omega (arith, is)) (omega (arith, at)) e h) end last

module _ (specification : Specification) (turns : ℕ) (script : Script) where
  abbrev whole : ℕ → Run
  whole k = run specification turns script k

  abbrev from_here : ℕ → ℕ → State → Run
  from_here m i A = run_from specification.program turns specification.main script m i A

  abbrev made : ℕ → State → Outcome
  made i A = step specification turns script i A

  abbrev step_then : Result → (m i : ℕ) → State → Run
  step_then o m i A = step_and specification.program turns specification.main o (made i A).instances i A (λ U. from_here m (suc i) (fire A U))

  -- of one step at least behind the first n
  grown : (n m k : ℕ) (A : State) → k ≡ n + suc m → IsAfter specification turns script n A → Alike (whole k) (step_then (made (n + 1) A).result m (n + 1) A)
  grown n m k A is after =
      let at : n + 1 ≡ 1 + n = omega arith in
      goes_on specification.program turns specification.main script n k (suc m) 1 (n + 1) specification.initial A is at after.0 after.1

  after_more : (n : ℕ) (A B : State) → IsAfter specification turns script n A → IsStep specification turns script (n + 1) A B → IsAfter specification turns script (n + 1) B
  after_more n A B after (U, is, good, leads) =
      let one : n + 1 ≡ n + suc zero = omega arith in
      let both = grown n zero (n + 1) A one after in
      let same : step_then (made (n + 1) A).result zero (n + 1) A ≡ fired U (made (n + 1) A).instances (ended AtLimit (fire A U)) =
      ap (λ o. step_then o zero (n + 1) A) is
      ∙ ap (λ b. cond b (fired U (made (n + 1) A).instances (ended AtLimit (fire A U))) (ended (AtFault (n + 1) U) A)) ((test_laws.consistency U).1 good) in
      (both.0 ∙ ap (λ (r : Run). r.end) same, both.1 ∙ ap (λ (r : Run). r.last) same ∙ sym leads)

  module _ (n k : ℕ) (A : State) (low : n < k) (after : IsAfter specification turns script n A) where
    abbrev left : ℕ
    left = k - (n + 1)

    longer : Alike (whole k) (step_then (made (n + 1) A).result left (n + 1) A)
    longer = let is : k ≡ n + suc (k - (n + 1)) = omega (arith, low) in grown n left k A is after

    abbrev next : Run
    next = step_then (made (n + 1) A).result left (n + 1) A

    exhausted : (q : Path) → (made (n + 1) A).result ≡ Exhausted q → Alike (whole k) (ended (AtExhausted (n + 1) q) A)
    exhausted q is =
        let end : Run = ended (AtExhausted (n + 1) q) A in
        alike_then (whole k) next end longer (alike_if next end (ap (λ o. step_then o left (n + 1) A) is))

    faulty : (U : UpdateSet) → (made (n + 1) A).result ≡ Gives U → ¬ (IsConsistent U) → Alike (whole k) (ended (AtFault (n + 1) U) A)
    faulty U is bad =
        let end : Run = ended (AtFault (n + 1) U) A in
        let fails : is_consistent U ≡ false = false_from_ne_true (is_consistent U) (λ e. bad ((test_laws.consistency U).0 e)) in
        alike_then (whole k) next end longer
        (alike_if next end (ap (λ o. step_then o left (n + 1) A) is
        ∙ ap (λ b. cond b (fired U (made (n + 1) A).instances (from_here left (suc (n + 1)) (fire A U))) end) fails))

pub run_laws : (specification : Specification) (turns : ℕ) (script : Script) → RunLaws specification turns script
run_laws specification turns script = record {
  first = (refl, refl);
  more = after_more specification turns script;
  exhausted = λ n k A q low after is. exhausted specification turns script n k A low after q is;
  faulty = λ n k A U low after is bad. faulty specification turns script n k A low after U is bad;
}
