-- Bridge to the code. Laws of traces.
--     OneTrace      a run has one trace at most
--     SomeTrace     each run of a specification has one
--     LineOfEnd     the end that is returned, in words and with its step, is the line of the end
use Rattle.std.specs.Prelude.{◌≡◌, ℕ, List}
use Rattle.asm_state.specs.Location.{Location}
use Rattle.asm_syntax.specs.SourceTree.{Spec}
use Rattle.asm_reader.specs.ScriptLines.{Script}
use Rattle.asm_meaning.specs.Run as run
use Rattle.asm_meaning.specs.Run.{Run}
use Rattle.asm_run.specs.Ends.{end_words_with}
use Rattle.asm_run.specs.Trace.{TraceNames, IsEndText, IsTrace, at_step, end_line}
use Rattle.asm_run.specs.Written.{names_in, locations_in}
use Rattle.asm_run.specs.Headline.{IsReturned, book_run}
use Rattle.asm_run.specs.declared.end.End.{End}

abbrev pub OneTrace : Type 0
OneTrace = (names : TraceNames) (ls : List Location) (i : ℕ) (r : Run) (a b : List ℕ) → IsTrace names ls i r a → IsTrace names ls i r b → a ≡ b

abbrev pub SomeTrace : Type 0
SomeTrace =
    (s : Spec) (turns : ℕ) (script : Script) (steps : ℕ)
    → (trace : List ℕ) × IsTrace (names_in s) (locations_in s) 1 (book_run s turns script steps) trace

abbrev pub LineOfEnd : Type 0
LineOfEnd = (names : TraceNames) (e : run.End) (answer : End) → IsReturned e answer → IsEndText names e (end_line (end_words_with names at_step answer))
