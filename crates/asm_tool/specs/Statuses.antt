-- Definition. The statuses that the program ends with.
--     status_of fault                               the status of a fault
--     no_words, read_fault, settings_fault          the fault where words or a text can't be had, or
--                                                   words give no settings
--     run_fault error                               the fault of a refused run
--     StatusTells text script_text limits status    0: their run makes all its steps; 1: it ends
--                                                   before; 2: one of the texts is refused
--     OfWords words contents input P                P holds of the texts that the words name
--     TellsOfWords words contents input status      what the status tells of them
use Rattle.std.specs.Prelude.{◌≡◌, ◌≢◌, ◌≤◌, ◌⊎◌, ℕ, List, [], Option, Some, IfSome, Ok, Err, Result, codes}
use Rattle.clap.specs.Simple.{matches_of}
use Rattle.clap.specs.Walk.{Row, Text, first_of}
use Rattle.asm_run.specs.ResultsTell.{EndsEarly, IsRefused, MakesAllSteps}
use Rattle.asm_run.specs.declared.end.EndKind.{EndKind}
use Rattle.asm_run.specs.declared.end.EndKind.TheVariants.{Limit, Clash, Outside, Exhausted}
use Rattle.asm_run.specs.declared.error.RunError.{RunError}
use Rattle.asm_run.specs.declared.error.RunError.TheVariants as run
use Rattle.asm_limits.specs.declared.run_limits.Limits.{Limits}
use Rattle.asm_files.specs.Input.{bytes_of}
use Rattle.asm_files.specs.declared.fault.NoWords.{NoWords}
use Rattle.asm_files.specs.declared.fault.NoWords.TheVariants as absent
use Rattle.asm_files.specs.declared.fault.ReadFault.{ReadFault}
use Rattle.asm_files.specs.declared.fault.ReadFault.TheVariants as unread
use Rattle.asm_tool.specs.CommandLine.{command, refusals}
use Rattle.asm_arguments.specs.Numbers.{IsNumber}
use Rattle.asm_tool.specs.declared.fault.Fault.{Fault}
use Rattle.asm_tool.specs.declared.fault.Fault.TheVariants.{Words, NotText, Read, Check, Script, Memory, File, Write}
use Rattle.asm_tool.specs.declared.settings.WordFault.{WordFault}
use Rattle.asm_tool.specs.declared.settings.WordFault.TheVariants as word

abbrev pub status_of : Fault → ℕ
status_of (Read error) = 2
status_of (Check error) = 2
status_of (Script error) = 2
status_of Memory = 3
status_of File = 3
status_of Write = 3
status_of (Words error) = 4
status_of NotText = 4

abbrev pub no_words : NoWords → Fault
no_words absent.Memory = Memory
no_words absent.NotText = NotText

abbrev pub read_fault : ReadFault → Fault
read_fault unread.Memory = Memory
read_fault unread.File = File

abbrev pub settings_fault : WordFault → Fault
settings_fault word.Memory = Memory
settings_fault (word.Words error) = Words error

-- a run that is refused, with limits in their ranges, which are no fault then
abbrev pub run_fault : RunError → Fault
run_fault (run.Read error) = Read error
run_fault (run.Check error) = Check error
run_fault (run.Script error) = Script error
run_fault run.Limits = Write
run_fault run.Memory = Memory
run_fault run.Write = Write

-- a fault when these words were to be taken: of the words only if they are refused, and then no
-- other except that memory ran out
pub record IsFaultOfWords (words : List Text) (fault : Fault) : Type 0 where
  pub taken : refusals words ≡ [] → status_of fault ≤ 3
  pub refused : refusals words ≢ [] → (fault ≡ Memory) ⊎ (status_of fault ≡ 4)

-- ---- what a status says of the texts and the limits

module _ (text script_text : List ℕ) (limits : Limits) where
  pub record StatusTells (status : ℕ) : Type 0 where
    pub whole : status ≡ 0 → MakesAllSteps text script_text limits
    pub early : status ≡ 1 → EndsEarly text script_text limits
    pub refused : status ≡ 2 → IsRefused text script_text

abbrev pub status_at : EndKind → ℕ
status_at Limit = 0
status_at Clash = 1
status_at Outside = 1
status_at Exhausted = 1

abbrev pub status_in : Result EndKind Fault → ℕ
status_in (Ok end) = status_at end
status_in (Err fault) = status_of fault

-- ---- of words

-- this holds of the text and of the script that these words name, if their bytes are known, and
-- of limits with the steps and turns that the words give; a script that isn't named has no bytes
abbrev pub OfWords : List Text → (contents : Text → Option (List ℕ)) → (input : Option (List ℕ)) → (List ℕ → List ℕ → Limits → Type 0) → Type 0
OfWords words contents input P =
    let rows : List Row = matches_of command words in
    IfSome (bytes_of contents input (first_of (codes "spec") rows)) (λ text.
    IfSome (bytes_of contents (Some []) (first_of (codes "script") rows)) (λ script_text.
    (limits : Limits) → IsNumber rows (codes "steps") limits.steps → IsNumber rows (codes "turns") limits.turns
    → P text script_text limits))

abbrev pub TellsOfWords : List Text → (contents : Text → Option (List ℕ)) → (input : Option (List ℕ)) → ℕ → Type 0
TellsOfWords words contents input status = OfWords words contents input (λ text script_text limits. StatusTells text script_text limits status)
