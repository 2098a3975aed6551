-- Free. A run of a specification has just one trace.
use Rattle.std.proofs.Common.{◌≡◌, ℕ, zero, suc, Bool, true, false, cond, List, [], ◌++◌, refl, sym, ap, ◌∙◌}
use Rattle.asm_state.specs.Location.{State}
use Rattle.asm_state.specs.Updates.{UpdateSet, is_consistent, fire}
use Rattle.asm_state.proofs.UpdateLemmas.Faults.{fault_laws}
use Rattle.asm_state.proofs.UpdateLemmas.Updates.{test_laws}
use Rattle.asm_syntax.specs.Tree.{Rule}
use Rattle.asm_meaning.specs.Declarations.{specification_of}
use Rattle.asm_meaning.specs.Program.{Program, nothing_bound}
use Rattle.asm_meaning.specs.Yields.{Result, Gives, Exhausted}
use Rattle.asm_reader.specs.ScriptLines.{Script}
use Rattle.asm_meaning.specs.Does.{does}
use Rattle.asm_meaning.specs.Run.{Run, End, AtFault, ended, fired, step_and, run_from}
use Rattle.asm_run.specs.Trace.{TraceNames, IsEndText, at_step, end_line, fault_words, steps_text, state_text}
use Rattle.asm_run.specs.code.Traces.{OneTrace, SomeTrace}
use Rattle.asm_run.specs.Written.{names_in, locations_in}
use Rattle.asm_run.specs.Headline.{book_run}
use Rattle.asm_run.proofs.RunSoFar.{one_end_text}

pub one_trace : OneTrace
one_trace names ls i r a b p q =
    p.whole ∙ ap (λ e. steps_text names ls i r.steps ++ (e ++ state_text names ls r.last)) (one_end_text names r.end p.end_text q.end_text p.is_end q.is_end) ∙ sym q.whole

abbrev HasLine : TraceNames → End → Type 0
HasLine names e = (text : List ℕ) × IsEndText names e text

module _ (names : TraceNames) (program : Program) (turns : ℕ) (main : Rule) where
  by_test : (U : UpdateSet) (m i : ℕ) (A : State) (rest : Run) (b : Bool) → is_consistent U ≡ b → HasLine names rest.end → HasLine names (cond b (fired U m rest) (ended (AtFault i U) A)).end
  by_test U m i A rest true e h = h
  by_test U m i A rest false e h =
      let first = fault_laws.has_first U (λ consistent. let yes : is_consistent U ≡ true = (test_laws.consistency U).1 consistent in absurd cc) in
      (end_line (fault_words names (at_step i) first.0), (first.0, first.1, refl))

  by_result : (r : Result) (m i : ℕ) (A : State) (rest : UpdateSet → Run) → ((U : UpdateSet) → HasLine names (rest U).end) → HasLine names (step_and program turns main r m i A rest).end
  by_result (Exhausted q) m i A rest h = (_, refl)
  by_result (Gives U) m i A rest h = by_test U m i A (rest U) (is_consistent U) refl (h U)

  has_line : (choices : Script) (n i : ℕ) (A : State) → HasLine names (run_from program turns main choices n i A).end
  has_line choices zero i A = (_, refl)
  has_line choices (suc n) i A =
      let o = does program turns choices i A nothing_bound [] main in
      by_result o.result o.instances i A (λ U. run_from program turns main choices n (suc i) (fire A U)) (λ U. has_line choices n (suc i) (fire A U))

pub some_trace : SomeTrace
some_trace s turns choices steps =
    let r : Run = book_run s turns choices steps in
    let line = has_line (names_in s) (specification_of s).program turns (specification_of s).main choices steps 1 (specification_of s).initial in (
      steps_text (names_in s) (locations_in s) 1 r.steps ++ (line.0 ++ state_text (names_in s) (locations_in s) r.last),
      record { end_text = line.0; is_end = line.1; whole = refl },
    )
