-- Definition. What a run writes and returns.
--     IsAccepted text s                  the text is that of the specification s, which has no
--                                        fault
--     IsFaulty text e                    the text is that of a specification whose first fault is
--                                        this
--     book_run s turns script steps      the run of s under the script
--     IsWritten, IsCut, AreWholeSteps    what the bytes of the sink grew by
--     Explains                           what a refusal says
--     Runs                               what the call that makes the run promises
use Rattle.std.specs.Prelude.{◌≡◌, ◌⊎◌, ◌↔◌, ◌<◌, ℕ, Bool, false, true, List, [], ◌++◌, length, take, Option, Result, Err, IsTrue, IfOk, IfErr}
use Rattle.std.specs.Io.KnownBytes.{Appends}
use Rattle.asm_state.specs.Location.{Location, Proper}
use Rattle.asm_state.specs.Updates.{Clash, Outside, IsFirstFault}
use Rattle.asm_syntax.specs.declared.error.LexError.TheVariants.{TooLong}
use Rattle.asm_syntax.specs.SourceTree.{Spec}
use Rattle.asm_syntax.specs.Tokens.{HasFirstToken}
use Rattle.asm_reader.specs.declared.error.ReadError.TheVariants.{Lex}
use Rattle.asm_reader.specs.Specification.{IsSpecification}
use Rattle.asm_reader.specs.Refusals.{IsRefusal}
use Rattle.asm_check.specs.declared.error.CheckError.{CheckError}
use Rattle.asm_check.specs.Errors.{number_of}
use Rattle.asm_check.specs.Faults.{IsWellFormed, IsLeastFault}
use Rattle.asm_meaning.specs.Declarations.{specification_of}
use Rattle.asm_reader.specs.ScriptLines.{Script}
use Rattle.asm_reader.specs.ScriptText.{IsScript, IsScriptRefusal}
use Rattle.asm_meaning.specs.Run as run
use Rattle.asm_meaning.specs.Run.{Run, AtLimit, AtExhausted, AtFault}
use Rattle.asm_limits.specs.Limits.{are_in_range}
use Rattle.asm_run.specs.Trace.{TraceNames, IsTrace, steps_text}
use Rattle.asm_run.specs.Written.{names_in, locations_in}
use Rattle.asm_run.specs.declared.end.End.{End}
use Rattle.asm_run.specs.declared.end.End.TheVariants as end
use Rattle.asm_run.specs.declared.error.RunError.{RunError}
use Rattle.asm_run.specs.declared.error.RunError.TheVariants as error
use Rattle.asm_limits.specs.declared.run_limits.Limits.{Limits}

pub record IsAccepted (text : List ℕ) (s : Spec) : Type 0 where
  pub spelled : IsSpecification text s
  pub faultless : IsWellFormed s

abbrev pub IsFaulty : List ℕ → CheckError → Type 0
IsFaulty text e = (s : Spec) × IsSpecification text s × IsLeastFault s e.at (number_of e.kind)

abbrev pub book_run : Spec → (turns : ℕ) → Script → (steps : ℕ) → Run
book_run s turns script steps = run.run (specification_of s) turns script steps

-- ---- runs from any step on, with these names and locations

-- what is returned of an end: all that the line of it says
abbrev pub IsReturned : run.End → End → Type 0
IsReturned AtLimit e = e ≡ end.Limit
IsReturned (AtExhausted i p) e = e ≡ end.Exhausted i p
IsReturned (AtFault i U) end.Limit = ⊥
IsReturned (AtFault i U) (end.Exhausted j p) = ⊥
IsReturned (AtFault i U) (end.Clash j f vs least greatest) = (j ≡ i) × IsFirstFault U (Clash (Proper f vs) (record { least = least; greatest = greatest }))
IsReturned (AtFault i U) (end.Outside j f) = (j ≡ i) × IsFirstFault U (Outside f)

module _ (names : TraceNames) (ls : List Location) (first : ℕ) where
  -- known bytes grow by the trace of the run
  pub record IsWritten (old new : Option (List ℕ)) (r : Run) : Type 0 where
    pub trace : List ℕ
    pub is_trace : IsTrace names ls first r trace
    pub appended : Appends old new trace

  -- known bytes grow by a front of the trace of the run
  pub record IsCut (old new : Option (List ℕ)) (r : Run) : Type 0 where
    pub front : List ℕ
    pub appended : Appends old new front
    pub is_front : (trace : List ℕ) → IsTrace names ls first r trace → (rest : List ℕ) × (trace ≡ front ++ rest)

  -- known bytes grow by the text of the first `count` fired steps of the run
  pub record AreWholeSteps (old new : Option (List ℕ)) (r : Run) : Type 0 where
    pub count : ℕ
    pub appended : Appends old new (steps_text names ls first (take count r.steps))

-- ---- the whole

-- nothing is written
abbrev pub IsUnwritten : (old new : Option (List ℕ)) → Type 0
IsUnwritten old new = Appends old new []

module _ (text script_text : List ℕ) (limits : Limits) (old new : Option (List ℕ)) where
  -- The whole trace is written, and the result is the end of the run.
  pub record IsDone (answer : End) : Type 0 where
    pub tree : Spec
    pub accepted : IsAccepted text tree
    pub script : Script
    pub spelled : IsScript script_text script
    pub in_range : are_in_range limits ≡ true
    pub written : IsWritten (names_in tree) (locations_in tree) 1 old new (book_run tree limits.turns script limits.steps)
    pub answered : IsReturned (book_run tree limits.turns script limits.steps).end answer

  -- A run was begun, and what was written of it.
  pub record IsBegun (P : Spec → Run → Type 0) : Type 0 where
    pub tree : Spec
    pub accepted : IsAccepted text tree
    pub script : Script
    pub spelled : IsScript script_text script
    pub in_range : are_in_range limits ≡ true
    pub holds : P tree (book_run tree limits.turns script limits.steps)

  abbrev pub Explains : RunError → Type 0
  Explains (error.Read e) = IsRefusal text e × IsUnwritten old new
  Explains (error.Check e) = IsFaulty text e × IsUnwritten old new
  Explains (error.Script e) = (s : Spec) × IsAccepted text s × IsScriptRefusal script_text e × IsUnwritten old new
  Explains error.Limits =
      (s : Spec) × IsAccepted text s × (script : Script) × IsScript script_text script × (are_in_range limits ≡ false) × IsUnwritten old new
  Explains error.Memory = IsUnwritten old new ⊎ IsBegun (λ s r. AreWholeSteps (names_in s) (locations_in s) 1 old new r)
  Explains error.Write = IsBegun (λ s r. IsCut (names_in s) (locations_in s) 1 old new r)

  -- what the call that makes the run promises
  pub record Runs (has_failed : Bool) (result : Result End RunError) : Type 0 where
    -- The bytes grew by the trace of the book's run, and by nothing else.
    pub done : IfOk result IsDone
    -- What a refusal says of the text, of the script, of the limits, and of what was written. Those
    -- of texts and limits exclude one another, and a run (`laws`).
    pub refused : IfErr result Explains
    -- A text that is too long is refused as that, whatever memory there is.
    pub too_long : 1_048_576 < length text → result ≡ Err (error.Read (Lex TooLong))
    -- Memory is asked for only if the text has a first token, and not before it.
    pub memory : IfErr result (λ e. e ≡ error.Memory → HasFirstToken text)
    -- The sink failed exactly if that is the result.
    pub failed : IsTrue has_failed ↔ (result ≡ Err error.Write)
