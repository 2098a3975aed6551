-- Definition. Why the program doesn't write what words ask for.
--     status_of fault             the status that the program ends with
--     IsOfFault status            it is one of these
--     source_in fault             the source whose text can't be had, if that is why
--     IsUnread Names fault        a text can't be had, whose source is one of these; or memory ran out
--     fault_of_report, fault_of_no_words, fault_of_read, fault_of_draw
--                                 the fault where there is no report, where words can't be had, where
--                                 the text from a source can't be, and where the script of a run can't
--                                 that is drawn from a seed
--     IsToldOf text report fault  it is the fault where there is no report, and may have the text of
--                                 the specification, which is this one
use Rattle.std.specs.Prelude.{◌≡◌, ◌≤◌, ℕ, List, Option, Some, None, IfSome, ⊤}
use Rattle.std.proofs.Common.{Vec, Global}
use Rattle.asm_explore_words.specs.declared.fault.Fault.{Fault}
use Rattle.asm_explore_words.specs.declared.fault.Fault.TheVariants as report
use Rattle.asm_explore_words.specs.declared.fault.Source.{Source}
use Rattle.asm_explore_random.specs.declared.drawn_script.Undrawn.{Undrawn}
use Rattle.asm_explore_random.specs.declared.drawn_script.Undrawn.TheVariants as undrawn
use Rattle.asm_files.specs.declared.fault.NoWords.{NoWords}
use Rattle.asm_files.specs.declared.fault.NoWords.TheVariants as absent
use Rattle.asm_files.specs.declared.fault.ReadFault.{ReadFault}
use Rattle.asm_files.specs.declared.fault.ReadFault.TheVariants as unread
use Rattle.asm_explore_tool.specs.declared.no_answer.NoAnswer.{NoAnswer}
use Rattle.asm_explore_tool.specs.declared.no_answer.NoAnswer.TheVariants.{Words, NotText, Text, Memory, File, Write, Graph, QuietScript, Name, Draw, Unconfirmed}

abbrev pub status_of : NoAnswer → ℕ
status_of (Text refused specification) = 2
status_of Memory = 3
status_of (File source) = 3
status_of Write = 3
status_of (Graph name) = 3
status_of (QuietScript name) = 3
status_of (Name name) = 2
status_of (Draw seed) = 3
status_of Unconfirmed = 3
status_of (Words error) = 4
status_of NotText = 4

abbrev pub IsOfFault : ℕ → Type 0
IsOfFault status = (2 ≤ status) × (status ≤ 4)

abbrev pub source_in : NoAnswer → Option Source
source_in (File source) = Some source
source_in fault = None

abbrev IsOfReading : NoAnswer → Type 0
IsOfReading Memory = ⊤
IsOfReading (File source) = ⊤
IsOfReading fault = ⊥

abbrev pub IsUnread : (Names : Source → Type 0) → NoAnswer → Type 0
IsUnread Names fault = IfSome (source_in fault) Names × IsOfReading fault

abbrev pub fault_of_report : Fault → NoAnswer
fault_of_report (report.Text refused) = Text refused None
fault_of_report report.Memory = Memory
fault_of_report (report.Graph name) = Graph name
fault_of_report (report.QuietScript name) = QuietScript name
fault_of_report (report.Name name) = Name name
fault_of_report report.Unconfirmed = Unconfirmed

abbrev pub IsToldOf : (text : List ℕ) → Fault → NoAnswer → Type 0
IsToldOf text (report.Text refused) fault = (specification : Option (Vec ℕ Global)) × IfSome specification (λ s. s.items ≡ text) × (fault ≡ Text refused specification)
IsToldOf text report.Memory fault = fault ≡ Memory
IsToldOf text (report.Graph name) fault = fault ≡ Graph name
IsToldOf text (report.QuietScript name) fault = fault ≡ QuietScript name
IsToldOf text (report.Name name) fault = fault ≡ Name name
IsToldOf text report.Unconfirmed fault = fault ≡ Unconfirmed

abbrev pub fault_of_no_words : NoWords → NoAnswer
fault_of_no_words absent.Memory = Memory
fault_of_no_words absent.NotText = NotText

abbrev pub fault_of_read : Source → ReadFault → NoAnswer
fault_of_read source unread.Memory = Memory
fault_of_read source unread.File = File source

abbrev pub fault_of_draw : (seed : ℕ) → Undrawn → NoAnswer
fault_of_draw seed undrawn.Memory = Memory
fault_of_draw seed undrawn.Unwritten = Draw seed
