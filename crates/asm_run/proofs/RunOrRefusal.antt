-- Free. Each text, script and limits have a run or a refusal.
use Rattle.std.proofs.Common.{◌≡◌, ◌⊎◌, ℕ, Bool, true, false, List, [], Some, inl, inr, refl, sym, subst}
use Rattle.asm_syntax.specs.SourceTree.{Spec}
use Rattle.asm_reader.specs.declared.error.ReadError.{ReadError}
use Rattle.asm_reader.specs.declared.script_error.ScriptError.{ScriptError}
use Rattle.asm_reader.specs.Specification.{IsSpecification}
use Rattle.asm_reader.specs.Refusals.{IsRefusal}
use Rattle.asm_reader.specs.ScriptLines.{Script}
use Rattle.asm_reader.specs.ScriptText.{IsScript, IsScriptRefusal}
use Rattle.asm_check.specs.declared.error.CheckError.{CheckError}
use Rattle.asm_check.specs.Errors.{number_of}
use Rattle.asm_check.specs.Faults.{IsFault, IsLeastFault, twice, unknown, arity, not_controlled, cyclic_rule, cyclic_derived, init, too_many, table_entry, result_use}
use Rattle.asm_check.specs.Laws.{LeastExists}
use Rattle.asm_check.specs.declared.error.FaultKind.{FaultKind}
use Rattle.asm_check.specs.declared.error.FaultKind.TheVariants.{Twice, Unknown, Arity, NotControlled, CyclicRule, CyclicDerived, Init, TooMany, TableEntry, ResultUse}
use Rattle.asm_meaning.specs.Run as run
use Rattle.asm_meaning.specs.Run.{AtLimit, AtExhausted, AtFault}
use Rattle.asm_run.specs.declared.end.End.{End}
use Rattle.asm_run.specs.declared.end.End.TheVariants as end
use Rattle.asm_run.specs.declared.error.RunError.{RunError}
use Rattle.asm_run.specs.declared.error.RunError.TheVariants as error
use Rattle.asm_limits.specs.declared.run_limits.Limits.{Limits}
use Rattle.asm_run.specs.code.Exclusion.{IsNamed}
use Rattle.asm_run.specs.Headline.{IsAccepted, IsReturned, IsDone, Explains, book_run}
use Rattle.asm_limits.specs.Limits.{are_in_range}
use Rattle.asm_run.specs.Trace.{TraceNames, IsEndText}
use Rattle.asm_run.specs.Written.{names_in}
use Rattle.asm_run.proofs.EndTexts.{fault_returned}
use Rattle.asm_run.proofs.Traces.{some_trace}

-- an end that has a line has a result
answer_of : (names : TraceNames) (e : run.End) (line : List ℕ) → IsEndText names e line → (answer : End) × IsReturned e answer
answer_of names AtLimit line is = (end.Limit, refl)
answer_of names (AtExhausted i p) line is = (end.Exhausted i p, refl)
answer_of names (AtFault i U) line is = fault_returned U i is.0 is.1

-- each fault is of a kind
kind_of : {s : Spec} {at n : ℕ} → IsFault s at n → (kind : FaultKind) × (number_of kind ≡ n)
kind_of (twice h) = (Twice, refl)
kind_of (unknown h) = (Unknown, refl)
kind_of (arity h) = (Arity, refl)
kind_of (not_controlled h) = (NotControlled, refl)
kind_of (cyclic_rule h) = (CyclicRule, refl)
kind_of (cyclic_derived h) = (CyclicDerived, refl)
kind_of (init h) = (Init, refl)
kind_of (too_many h) = (TooMany, refl)
kind_of (table_entry h) = (TableEntry, refl)
kind_of (result_use h) = (ResultUse, refl)

error_of : (s : Spec) (at n : ℕ) → IsLeastFault s at n → (e : CheckError) × IsLeastFault s e.at (number_of e.kind)
error_of s at n least =
    let k = kind_of least.fault in
    (record { kind = k.0; at = at }, subst (IsLeastFault s at) (sym k.1) least)

module _ (tree_or_refusal : (text : List ℕ) → ((s : Spec) × IsSpecification text s) ⊎ ((e : ReadError) × IsRefusal text e))
    (sound_or_faulty : LeastExists)
    (script_or_refusal : (text : List ℕ) → ((s : Script) × IsScript text s) ⊎ ((e : ScriptError) × IsScriptRefusal text e))
    (text script_text : List ℕ) (limits : Limits) where
  abbrev HasRun : Type 0
  HasRun = (answer : End) × (trace : List ℕ) × IsDone text script_text limits (Some []) (Some trace) answer

  abbrev HasRefusal : Type 0
  HasRefusal = (e : RunError) × IsNamed e × Explains text script_text limits (Some []) (Some []) e

  module _ (s : Spec) (accepted : IsAccepted text s) where
    the_run : (script : Script) → IsScript script_text script → are_in_range limits ≡ true → HasRun
    the_run script spelled in_range =
        let t = some_trace s limits.turns script limits.steps in
        let a = answer_of (names_in s) (book_run s limits.turns script limits.steps).end t.1.end_text t.1.is_end in (
          a.0,
          t.0,
          record {
            tree = s;
            accepted = accepted;
            script = script;
            spelled = spelled;
            in_range = in_range;
            written = record { trace = t.0; is_trace = t.1; appended = refl };
            answered = a.1;
          },
        )

    by_limits : (script : Script) → IsScript script_text script → (b : Bool) → are_in_range limits ≡ b → HasRun ⊎ HasRefusal
    by_limits script spelled true is = inl (the_run script spelled is)
    by_limits script spelled false is = inr (error.Limits, tt, (s, accepted, script, spelled, is, refl))

    by_script : HasRun ⊎ HasRefusal
    by_script = elim (script_or_refusal script_text) [
      | inl h ↦ by_limits h.0 h.1 (are_in_range limits) refl
      | inr h ↦ inr (error.Script h.0, tt, (s, accepted, h.1, refl))
    ]

  by_faults : (s : Spec) → IsSpecification text s → HasRun ⊎ HasRefusal
  by_faults s spelled = elim (sound_or_faulty s) [
    | inl h ↦ by_script s (record { spelled = spelled; faultless = h })
    | inr h ↦ let e = error_of s h.0 h.1 h.2 in inr (error.Check e.0, tt, ((s, spelled, e.1), refl))
  ]

  pub run_or_refusal : HasRun ⊎ HasRefusal
  run_or_refusal = elim (tree_or_refusal text) [
    | inl h ↦ by_faults h.0 h.1
    | inr h ↦ inr (error.Read h.0, tt, (h.1, refl))
  ]
