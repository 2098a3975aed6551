-- Free. How far a run has come, and what is left when it stops.
use Rattle.std.proofs.Common.{◌≡◌, ℕ, suc, ◌+◌, List, [], ◌∷◌, ◌++◌, length, take, drop, Option, append_assoc, sym, ap, subst, ◌∙◌, arith}
use Rattle.std.specs.Io.KnownBytes.{Appends}
use Rattle.std.proofs.lemmas.List.{append-nil, length-append, take-append-drop}
use Rattle.std.proofs.Math.Seq.{take-append_seam}
use Rattle.asm_state.specs.Location.{Location, State}
use Rattle.asm_state.specs.Updates.{UpdateSet}
use Rattle.asm_state.proofs.UpdateLemmas.Faults.{fault_laws}
use Rattle.asm_meaning.specs.Run.{Run, FiredStep, End, AtLimit, AtExhausted, AtFault, ended, fired}
use Rattle.asm_run.specs.Trace.{TraceNames, step_text, steps_text, IsEndText, at_step, end_line, fault_words, state_text}
use Rattle.asm_run.specs.Sink.{AppendsFront}
use Rattle.asm_run.specs.Headline.{IsWritten, IsCut, AreWholeSteps}
use Rattle.asm_run.specs.code.RunSoFar.{IsReached}
use Rattle.asm_run.proofs.TextLemmas.Appending.{Appends-trans}

-- one end has one line
pub one_end_text : (names : TraceNames) (e : End) (s t : List ℕ) → IsEndText names e s → IsEndText names e t → s ≡ t
one_end_text names AtLimit s t p q = p ∙ sym q
one_end_text names (AtExhausted i path) s t p q = p ∙ sym q
one_end_text names (AtFault i U) s t p q =
    p.2 ∙ ap (λ f. end_line (fault_words names (at_step i) f)) (fault_laws.one_first U p.0 q.0 p.1 q.1) ∙ sym q.2

abbrev step_of : UpdateSet → ℕ → FiredStep
step_of U n = record { set = U; instances = n }

module _ (names : TraceNames) (ls : List Location) where
  pub steps_text-append : (i : ℕ) (xs ys : List FiredStep) → steps_text names ls i (xs ++ ys) ≡ steps_text names ls i xs ++ steps_text names ls (i + length xs) ys
  steps_text-append i [] ys = let e : i ≡ i + 0 = omega arith in ap (λ k. steps_text names ls k ys) e
  steps_text-append i (x ∷ xs) ys =
      let e : suc i + length xs ≡ i + suc (length xs) = omega arith in
      ap (λ w. step_text names ls i x ++ w) (steps_text-append (suc i) xs ys)
      ∙ sym (append_assoc (step_text names ls i x) (steps_text names ls (suc i) xs) (steps_text names ls (suc i + length xs) ys))
      ∙ ap (λ k. steps_text names ls i (x ∷ xs) ++ steps_text names ls k ys) e

  -- one step more after those that are done
  one_more : (i : ℕ) (done : List FiredStep) (s : FiredStep) → i ≡ 1 + length done → steps_text names ls 1 (done ++ s ∷ []) ≡ steps_text names ls 1 done ++ step_text names ls i s
  one_more i done s e =
      steps_text-append 1 done (s ∷ [])
      ∙ ap (λ w. steps_text names ls 1 done ++ w) (append-nil (step_text names ls (1 + length done) s) ∙ ap (λ k. step_text names ls k s) (sym e))

  module _ (total : Run) (i : ℕ) (rest : Run) (old mid new : Option (List ℕ)) (r : IsReached names ls total i rest old mid) where
    -- a step is fired and written
    pub reached_more : (U : UpdateSet) (n : ℕ) (next : Run) → rest ≡ fired U n next → Appends mid new (step_text names ls i (step_of U n)) → IsReached names ls total (suc i) next old new
    reached_more U n next e w = record {
      done = r.done ++ step_of U n ∷ [];
      number = let number = r.number in omega (arith, length-append r.done (step_of U n ∷ []));
      steps = r.steps ∙ ap (λ (v : Run). r.done ++ v.steps) e ∙ sym (append_assoc r.done (step_of U n ∷ []) next.steps);
      end = r.end ∙ ap (λ (v : Run). v.end) e;
      last = r.last ∙ ap (λ (v : Run). v.last) e;
      written = subst (λ t. Appends old new t) (sym (one_more i r.done (step_of U n) r.number)) (Appends-trans old mid new (steps_text names ls 1 r.done) (step_text names ls i (step_of U n)) r.written w);
    }

    -- the text of a whole run that goes on with this step
    whole_text : (U : UpdateSet) (n : ℕ) (next : Run) → rest ≡ fired U n next → (tail : List ℕ)
        → steps_text names ls 1 total.steps ++ tail ≡ steps_text names ls 1 r.done ++ (step_text names ls i (step_of U n) ++ (steps_text names ls (suc i) next.steps ++ tail))
    whole_text U n next e tail =
        let s : FiredStep = step_of U n in
        let steps : total.steps ≡ r.done ++ s ∷ next.steps = r.steps ∙ ap (λ (v : Run). r.done ++ v.steps) e in
        ap (λ v. steps_text names ls 1 v ++ tail) steps
        ∙ ap (λ w. w ++ tail) (steps_text-append 1 r.done (s ∷ next.steps))
        ∙ ap (λ k. (steps_text names ls 1 r.done ++ steps_text names ls k (s ∷ next.steps)) ++ tail) (sym r.number)
        ∙ simp append_assoc

    -- the sink failed in the text of a step
    pub cut_in_step : (U : UpdateSet) (n : ℕ) (next : Run) → rest ≡ fired U n next → AppendsFront mid new (step_text names ls i (step_of U n)) → IsCut names ls 1 old new total
    cut_in_step U n next e f =
        let text : List ℕ = step_text names ls i (step_of U n) in
        record {
          front = steps_text names ls 1 r.done ++ take f.count text;
          appended = Appends-trans old mid new (steps_text names ls 1 r.done) (take f.count text) r.written f.bytes;
          is_front = λ trace t.
              let tail : List ℕ = t.end_text ++ state_text names ls total.last in
              let after : List ℕ = steps_text names ls (suc i) next.steps ++ tail in (
                drop f.count text ++ after,
                t.whole ∙ whole_text U n next e tail
                    ∙ ap (λ w. steps_text names ls 1 r.done ++ (w ++ after)) (sym (take-append-drop f.count text))
                    ∙ simp append_assoc,
              );
        }

    module _ (e : End) (A : State) (is : rest ≡ ended e A) where
      all_done : total.steps ≡ r.done
      all_done = r.steps ∙ ap (λ (v : Run). r.done ++ v.steps) is ∙ append-nil r.done

      end_is : total.end ≡ e
      end_is = r.end ∙ ap (λ (v : Run). v.end) is

      last_is : total.last ≡ A
      last_is = r.last ∙ ap (λ (v : Run). v.last) is

      module _ (end_text : List ℕ) (ends : IsEndText names e end_text) where
        abbrev last_lines : List ℕ
        last_lines = end_text ++ state_text names ls A

        -- all is written
        pub written_at_end : Appends mid new last_lines → IsWritten names ls 1 old new total
        written_at_end w = record {
          trace = steps_text names ls 1 r.done ++ last_lines;
          is_trace = record {
            end_text = end_text;
            is_end = subst (λ v. IsEndText names v end_text) (sym end_is) ends;
            whole = ap (λ v. steps_text names ls 1 v ++ last_lines) (sym all_done)
                ∙ ap (λ (B : State). steps_text names ls 1 total.steps ++ (end_text ++ state_text names ls B)) (sym last_is);
          };
          appended = Appends-trans old mid new (steps_text names ls 1 r.done) last_lines r.written w;
        }

        -- the sink failed in the last lines
        pub cut_at_end : AppendsFront mid new last_lines → IsCut names ls 1 old new total
        cut_at_end f = record {
          front = steps_text names ls 1 r.done ++ take f.count last_lines;
          appended = Appends-trans old mid new (steps_text names ls 1 r.done) (take f.count last_lines) r.written f.bytes;
          is_front = λ trace t.
              let same : t.end_text ≡ end_text = one_end_text names e t.end_text end_text (subst (λ v. IsEndText names v t.end_text) end_is t.is_end) ends in (
                drop f.count last_lines,
                t.whole
                    ∙ ap (λ v. steps_text names ls 1 v ++ (t.end_text ++ state_text names ls total.last)) all_done
                    ∙ ap (λ w. steps_text names ls 1 r.done ++ (w ++ state_text names ls total.last)) same
                    ∙ ap (λ (B : State). steps_text names ls 1 r.done ++ (end_text ++ state_text names ls B)) last_is
                    ∙ ap (λ w. steps_text names ls 1 r.done ++ w) (sym (take-append-drop f.count last_lines))
                    ∙ sym (append_assoc (steps_text names ls 1 r.done) (take f.count last_lines) (drop f.count last_lines)),
              );
        }

    -- memory ran out between two steps
    pub whole_steps : Appends mid new [] → AreWholeSteps names ls 1 old new total
    whole_steps w =
        let taken : take (length r.done) total.steps ≡ r.done = ap (λ v. take (length r.done) v) r.steps ∙ take-append_seam r.done rest.steps in
        record {
          count = length r.done;
          appended = subst (λ t. Appends old new t) (append-nil (steps_text names ls 1 r.done) ∙ ap (λ v. steps_text names ls 1 v) (sym taken))
              (Appends-trans old mid new (steps_text names ls 1 r.done) [] r.written w);
        }
