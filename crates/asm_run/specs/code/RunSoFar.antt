-- Bridge to the code. How far a run has come.
--     IsReached     these steps of a run are fired and written, and the rest of it is left
--     RunsSteps     what the steps of a run do to the bytes of a sink
--     GoesOnFrom    what stays true from step to step
use Rattle.std.specs.Prelude.{◌≡◌, ℕ, ◌+◌, ◌-◌, Bool, true, false, List, ◌++◌, length, Option, Result, Ok, Err}
use Rattle.std.specs.Io.KnownBytes.{Appends}
use Rattle.asm_state.specs.declared.value.Value.{Value}
use Rattle.asm_state.specs.Location.{Location}
use Rattle.asm_state.specs.Signature.{state_of}
use Rattle.asm_syntax.specs.SourceTree.{Spec}
use Rattle.asm_check.specs.Faults.{inits}
use Rattle.asm_check.specs.Shapes.{shape_of}
use Rattle.asm_meaning.specs.Declarations.{program_of, main_rule}
use Rattle.asm_reader.specs.ScriptLines.{Script}
use Rattle.asm_meaning.specs.Run.{Run, FiredStep, run_from}
use Rattle.asm_run.specs.declared.end.End.{End}
use Rattle.asm_run.specs.declared.error.RunError.{RunError}
use Rattle.asm_run.specs.declared.error.RunError.TheVariants as error
use Rattle.asm_run.specs.Trace.{TraceNames, steps_text}
use Rattle.asm_run.specs.Written.{names_in, locations_in}
use Rattle.asm_run.specs.code.Step.{AreSized}
use Rattle.asm_run.specs.Headline.{IsWritten, IsCut, AreWholeSteps, IsReturned, book_run}

-- in step i, with this part of the run before it
pub record IsReached (names : TraceNames) (ls : List Location) (total : Run) (i : ℕ) (rest : Run) (old new : Option (List ℕ)) : Type 0 where
  pub done : List FiredStep
  pub number : i ≡ 1 + length done
  pub steps : total.steps ≡ done ++ rest.steps
  pub end : total.end ≡ rest.end
  pub last : total.last ≡ rest.last
  pub written : Appends old new (steps_text names ls 1 done)

abbrev pub RunsSteps : TraceNames → List Location → Option (List ℕ) → Option (List ℕ) → (failed : Bool) → Run → Result End RunError → Type 0
RunsSteps names ls old new failed r (Ok e) = IsWritten names ls 1 old new r × IsReturned r.end e × (failed ≡ false)
RunsSteps names ls old new failed r (Err error.Memory) = AreWholeSteps names ls 1 old new r × (failed ≡ false)
RunsSteps names ls old new failed r (Err error.Write) = IsCut names ls 1 old new r × (failed ≡ true)
RunsSteps names ls old new failed r (Err error.Limits) = ⊥
RunsSteps names ls old new failed r (Err (error.Read refusal)) = ⊥
RunsSteps names ls old new failed r (Err (error.Check refusal)) = ⊥
RunsSteps names ls old new failed r (Err (error.Script refusal)) = ⊥

-- What stays true from step to step, when `made` of `steps` steps were made.
pub record GoesOnFrom (s : Spec) (turns : ℕ) (script : Script) (steps made : ℕ) (contents : List Value) (count : ℕ) (old new : Option (List ℕ)) (failed : Bool) : Type 0 where
  pub sized : AreSized s contents count
  pub is_open : failed ≡ false
  pub reached : IsReached (names_in s) (locations_in s) (book_run s turns script steps) (1 + made)
      (run_from (program_of s) turns (main_rule s (inits s)) script (steps - made) (1 + made) (state_of (shape_of s) contents)) old new
