-- Definition. The end of a run, in words and in a line.
--     IsEndWords names end words        what the line of the end has in a trace (`IsEndText`),
--                                       without the step: of a fault, location and values or the
--                                       function; of an exhausted rule, its path
--     IsRunLine names steps end line    the line for a run of at most `steps` steps that ends so
use Rattle.std.specs.Prelude.{◌≡◌, ℕ, List, ◌++◌, codes, decimal}
use Rattle.asm_state.specs.Updates.{Fault, IsFirstFault}
use Rattle.asm_meaning.specs.Run.{AtExhausted, AtFault, AtLimit, End}
use Rattle.asm_run.specs.Trace.{TraceNames, exhausted_words, fault_words}

abbrev pub IsEndWords : TraceNames → End → (words : List ℕ) → Type 0
IsEndWords names AtLimit words = words ≡ codes "limit"
IsEndWords names (AtExhausted step p) words = words ≡ exhausted_words (codes " ") p
IsEndWords names (AtFault step U) words = (fault : Fault) × IsFirstFault U fault × (words ≡ fault_words names (codes " ") fault)

abbrev pub limit_line : (steps : ℕ) → List ℕ
limit_line steps = codes "limit after step " ++ decimal steps

abbrev pub step_line : (step : ℕ) → (words : List ℕ) → List ℕ
step_line step words = codes "fault in step " ++ (decimal step ++ (codes ": " ++ words))

abbrev pub IsRunLine : TraceNames → (steps : ℕ) → End → (line : List ℕ) → Type 0
IsRunLine names steps AtLimit line = line ≡ limit_line steps
IsRunLine names steps (AtExhausted step p) line = (words : List ℕ) × IsEndWords names (AtExhausted step p) words × (line ≡ step_line step words)
IsRunLine names steps (AtFault step U) line = (words : List ℕ) × IsEndWords names (AtFault step U) words × (line ≡ step_line step words)
