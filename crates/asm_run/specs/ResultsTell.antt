-- Definition. What a result says of the texts, whatever became of the bytes.
--     MakesAllSteps text script_text limits    the texts are those of a specification without
--                                              faults and of a script, and its run makes all its
--                                              steps
--     EndsEarly text script_text limits        its run ends before
--     IsRefused text script_text               one of the texts is refused
--     ResultsTell                              the result says which
use Rattle.std.specs.Prelude.{◌≡◌, ◌≢◌, ℕ, List, Option, Ok, Err, Result, IfErr, IfOk, ⊤}
use Rattle.asm_syntax.specs.SourceTree.{Spec}
use Rattle.asm_reader.specs.Refusals.{IsRefusal}
use Rattle.asm_reader.specs.ScriptLines.{Script}
use Rattle.asm_reader.specs.ScriptText.{IsScript, IsScriptRefusal}
use Rattle.asm_reader.specs.declared.error.ReadError.{ReadError}
use Rattle.asm_reader.specs.declared.script_error.ScriptError.{ScriptError}
use Rattle.asm_check.specs.declared.error.CheckError.{CheckError}
use Rattle.asm_meaning.specs.Run as run
use Rattle.asm_meaning.specs.Run.{AtLimit}
use Rattle.asm_run.specs.Headline.{Explains, IsAccepted, IsDone, IsFaulty, book_run}
use Rattle.asm_run.specs.declared.end.End.{End}
use Rattle.asm_run.specs.declared.end.End.TheVariants as end
use Rattle.asm_run.specs.declared.error.RunError.{RunError}
use Rattle.asm_run.specs.declared.error.RunError.TheVariants as error
use Rattle.asm_limits.specs.declared.run_limits.Limits.{Limits}

module _ (text script_text : List ℕ) where
  pub data IsRefused : Type 0 where
    unread : (e : ReadError) → IsRefusal text e → IsRefused
    faulty : (e : CheckError) → IsFaulty text e → IsRefused
    unscripted : (s : Spec) (e : ScriptError) → IsAccepted text s → IsScriptRefusal script_text e → IsRefused

  module _ (limits : Limits) where
    pub record HasEnd (P : run.End → Type 0) : Type 0 where
      pub tree : Spec
      pub accepted : IsAccepted text tree
      pub script : Script
      pub spelled : IsScript script_text script
      pub ended : P (book_run tree limits.turns script limits.steps).end

    abbrev pub MakesAllSteps : Type 0
    MakesAllSteps = HasEnd (λ e. e ≡ AtLimit)

    abbrev pub EndsEarly : Type 0
    EndsEarly = HasEnd (λ e. e ≢ AtLimit)

    abbrev pub ResultTells : Result End RunError → Type 0
    ResultTells (Ok end.Limit) = MakesAllSteps
    ResultTells (Ok (end.Clash i f vs least greatest)) = EndsEarly
    ResultTells (Ok (end.Outside i f)) = EndsEarly
    ResultTells (Ok (end.Exhausted i p)) = EndsEarly
    ResultTells (Err (error.Read e)) = IsRefused
    ResultTells (Err (error.Check e)) = IsRefused
    ResultTells (Err (error.Script e)) = IsRefused
    ResultTells (Err error.Limits) = ⊤
    ResultTells (Err error.Memory) = ⊤
    ResultTells (Err error.Write) = ⊤

abbrev pub ResultsTell : Type 0
ResultsTell =
    (text script_text : List ℕ) (limits : Limits) (old new : Option (List ℕ)) (answer : Result End RunError)
    → IfOk answer (IsDone text script_text limits old new)
    → IfErr answer (Explains text script_text limits old new)
    → ResultTells text script_text limits answer
