-- Definition. What the program writes, and what it says if the trace isn't whole.
--     HasRun text script_text limits P       the texts are those of a specification without
--                                            faults and of a script, and P holds of their run
--     IsWholeTrace old new                   known bytes grow by the trace of the run
--     IsFrontOfTrace, AreFirstSteps          by a front of it; by the text of its first steps
--     line_of fault                          the line on standard error; of refused words it is
--                                            their library's
--     IsSaid old new failed line             known bytes grow by the line, or by a front of it
--                                            if the writer has failed
--     Explains fault old new                 what a fault says of texts and of what is written
--     ExplainsOfWords                        the same of the texts that words name, and that the
--                                            output failed, if the fault is that
--     IsExplained                            some fault says why the status is what it is
use Rattle.std.specs.Prelude.{◌≡◌, ◌⊎◌, ℕ, Bool, List, ◌++◌, Option, None, Some, IfSome, IsTrue, codes, decimal, ⊤}
use Rattle.std.specs.Io.KnownBytes.{Appends}
use Rattle.clap.specs.Walk.{Text}
use Rattle.asm_syntax.specs.SourceTree.{Spec}
use Rattle.asm_reader.specs.Refusals.{IsRefusal, refusal_number, refusal_offset}
use Rattle.asm_reader.specs.ScriptLines.{Script as Lines}
use Rattle.asm_reader.specs.ScriptRefusals.{script_refusal_line, script_refusal_number}
use Rattle.asm_reader.specs.ScriptText.{IsScript, IsScriptRefusal}
use Rattle.asm_check.specs.Errors.{number_of}
use Rattle.asm_meaning.specs.Run.{Run}
use Rattle.asm_run.specs.Headline.{AreWholeSteps, IsAccepted, IsCut, IsFaulty, IsUnwritten, IsWritten, book_run}
use Rattle.asm_run.specs.Sink.{AppendsFront}
use Rattle.asm_run.specs.Trace.{line_end}
use Rattle.asm_run.specs.Written.{names_in, locations_in}
use Rattle.asm_limits.specs.declared.run_limits.Limits.{Limits}
use Rattle.asm_tool.specs.Statuses.{OfWords, status_of}
use Rattle.asm_tool.specs.declared.fault.Fault.{Fault}
use Rattle.asm_tool.specs.declared.fault.Fault.TheVariants.{Words, NotText, Read, Check, Script, Memory, File, Write}

-- ---- on standard output

pub record HasRun (text script_text : List ℕ) (limits : Limits) (P : Spec → Run → Type 0) : Type 0 where
  pub tree : Spec
  pub accepted : IsAccepted text tree
  pub script : Lines
  pub spelled : IsScript script_text script
  pub holds : P tree (book_run tree limits.turns script limits.steps)

module _ (old new : Option (List ℕ)) (text script_text : List ℕ) (limits : Limits) where
  abbrev pub IsWholeTrace : Type 0
  IsWholeTrace = HasRun text script_text limits (λ s r. IsWritten (names_in s) (locations_in s) 1 old new r)

  -- by a front of the trace
  abbrev pub IsFrontOfTrace : Type 0
  IsFrontOfTrace = HasRun text script_text limits (λ s r. IsCut (names_in s) (locations_in s) 1 old new r)

  -- by the first N steps of the trace, each whole
  abbrev pub AreFirstSteps : Type 0
  AreFirstSteps = HasRun text script_text limits (λ s r. AreWholeSteps (names_in s) (locations_in s) 1 old new r)

-- ---- on standard error

-- where something is wrong, if it is at a place, and the end of the line
abbrev pub placed : (before : List ℕ) → Option ℕ → List ℕ
placed before None = line_end
placed before (Some place) = before ++ (decimal place ++ line_end)

abbrev pub numbered : (kind : List ℕ) → ℕ → (before : List ℕ) → Option ℕ → List ℕ
numbered kind number before place = kind ++ (decimal number ++ placed before place)

abbrev pub line_of : Fault → Option (List ℕ)
line_of (Words error) = None
line_of NotText = Some (codes "error: a word is not UTF-8" ++ line_end)
line_of (Read e) = Some (numbered (codes "read ") (refusal_number e) (codes " at ") (refusal_offset e))
line_of (Check e) = Some (numbered (codes "check ") (number_of e.kind) (codes " at ") (Some e.at))
line_of (Script e) = Some (numbered (codes "script ") (script_refusal_number e) (codes " line ") (script_refusal_line e))
line_of Memory = Some (codes "memory" ++ line_end)
line_of File = Some (codes "file" ++ line_end)
line_of Write = Some (codes "write" ++ line_end)

abbrev pub IsSaid : (old new : Option (List ℕ)) → (failed : Bool) → Option (List ℕ) → Type 0
IsSaid old new failed line = IfSome line (λ text. Appends old new text ⊎ (IsTrue failed × AppendsFront old new text))

-- ---- what a fault says

-- Memory and the writer may fail in the midst of a run, and no other fault comes so late.
abbrev pub LeavesUnwritten : Fault → (old new : Option (List ℕ)) → Type 0
LeavesUnwritten Memory old new = ⊤
LeavesUnwritten Write old new = ⊤
LeavesUnwritten fault old new = IsUnwritten old new

-- The whole trace may be written, and the writer fail as it hands it on.
abbrev pub Explains : Fault → (old new : Option (List ℕ)) → List ℕ → List ℕ → Limits → Type 0
Explains (Read e) old new text script_text limits = IsRefusal text e
Explains (Check e) old new text script_text limits = IsFaulty text e
Explains (Script e) old new text script_text limits = (s : Spec) × IsAccepted text s × IsScriptRefusal script_text e
Explains Memory old new text script_text limits = IsUnwritten old new ⊎ AreFirstSteps old new text script_text limits
Explains Write old new text script_text limits = IsFrontOfTrace old new text script_text limits ⊎ IsWholeTrace old new text script_text limits
Explains fault old new text script_text limits = ⊤

module _ (words : List Text) (contents : Text → Option (List ℕ)) (input : Option (List ℕ)) (old new : Option (List ℕ)) (out_failed : Bool) where
  pub record ExplainsOfWords (fault : Fault) : Type 0 where
    pub texts : OfWords words contents input (Explains fault old new)
    pub unwritten : LeavesUnwritten fault old new
    pub failed : fault ≡ Write → IsTrue out_failed

  -- A fault with this status says so, and it alone is what is said on standard error.
  pub record IsExplained (status : ℕ) (err_old err_new : Option (List ℕ)) (err_failed : Bool) : Type 0 where
    pub fault : Fault
    pub is_status : status_of fault ≡ status
    pub holds : ExplainsOfWords fault
    pub said : IsSaid err_old err_new err_failed (line_of fault)
