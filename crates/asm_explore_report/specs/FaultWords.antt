-- Definition. The words for the fault that is found.
--     value_in spec t A                the value of a term in a state, with no name bound
--     IsBroken spec terms A words lines
--                                      of the conditions the first that isn't true in the state:
--                                      its number, from 1, and its value; and a line that says why
--     unwritten_words                  what is said of a run whose script can't be written
--     EndsBy fault step end            a run that shows the fault of this step ends so
--     AreFaultWords                    the words are those for the end of the run, as its trace has
--                                      them, or of its last state, with a line; a deadlock is called so
--     FaultTells, BadTells             the run that was found ends by the fault, in its step, and
--                                      these are its words and lines
use Rattle.std.specs.Prelude.{◌≡◌, ℕ, suc, true, false, List, [], ◌∷◌, ◌++◌, length, codes, decimal}
use Rattle.std.specs.String.{string_bytes}
use Rattle.std.specs.List.{list_all}
use Rattle.asm_state.specs.Location.{State}
use Rattle.asm_state.specs.declared.value.Value.{Value}
use Rattle.asm_syntax.specs.PlainTree.{plain_term}
use Rattle.asm_syntax.specs.SourceTree.{Spec, Term}
use Rattle.asm_reader.specs.ScriptLines.{Script}
use Rattle.asm_reader.specs.ScriptText.{IsScript}
use Rattle.asm_meaning.specs.Declarations.{program_of, specification_of}
use Rattle.asm_meaning.specs.Program.{nothing_bound}
use Rattle.asm_meaning.specs.Run.{AtExhausted, AtFault, AtLimit, End, Run, run}
use Rattle.asm_meaning.specs.Value.{is_true, value}
use Rattle.asm_explore.specs.Search.{steps_to}
use Rattle.asm_explore.specs.declared.exploration_result.BadRun.{BadRun}
use Rattle.asm_explore.specs.declared.fault.Fault.{Fault}
use Rattle.asm_explore.specs.declared.fault.Fault.TheVariants.{Exhausted, Inconsistent, Wrong, Deadlock}
use Rattle.asm_run.specs.Trace.{value_text}
use Rattle.asm_run.specs.Written.{names_in}
use Rattle.asm_explore_because.specs.Because.{IsBecause}
use Rattle.asm_explore_report.specs.EndWords.{IsEndWords}

abbrev pub value_in : Spec → Term → State → Value
value_in s t A = value (program_of s) A nothing_bound (plain_term t)

abbrev pub broken_words : Spec → (number : ℕ) → Value → List ℕ
broken_words s number v = codes "condition " ++ (decimal number ++ (codes " is " ++ value_text (names_in s).elements v))

pub record IsBroken (s : Spec) (terms : List Term) (A : State) (words : List ℕ) (lines : List (List ℕ)) : Type 0 where
  pub before : List Term
  pub one : Term
  pub after : List Term
  pub parts : terms ≡ before ++ one ∷ after
  pub held : list_all (λ t. is_true (value_in s t A)) before ≡ true
  pub broken : is_true (value_in s one A) ≡ false
  pub are : words ≡ broken_words s (suc (length before)) (value_in s one A)
  -- why it isn't
  pub line : List ℕ
  pub because : IsBecause s A one line
  pub is_line : lines ≡ line ∷ []

abbrev pub unwritten_words : List ℕ
unwritten_words = codes "its script can't be written"

-- a step that goes wrong is the last one; a state that is wrong is come to by all steps
abbrev pub EndsBy : Fault → (step : ℕ) → End → Type 0
EndsBy Exhausted step (AtExhausted i p) = i ≡ step
EndsBy Inconsistent step (AtFault i U) = i ≡ step
EndsBy Wrong step AtLimit = Unit {0}
EndsBy Deadlock step AtLimit = Unit {0}
EndsBy fault step end = ⊥

module _ (s : Spec) (terms : List Term) (turns : ℕ) where
  abbrev pub AreFaultWords : Fault → Run → (words : List ℕ) → (lines : List (List ℕ)) → Type 0
  AreFaultWords Exhausted r words lines = IsEndWords (names_in s) r.end words × (lines ≡ [])
  AreFaultWords Inconsistent r words lines = IsEndWords (names_in s) r.end words × (lines ≡ [])
  AreFaultWords Wrong r words lines = IsBroken s terms r.last words lines
  AreFaultWords Deadlock r words lines = (words ≡ codes "deadlock") × (lines ≡ [])

  -- of the run under the script with this text
  abbrev pub FaultTells : Fault → (script_text : List ℕ) → (step : ℕ) → (words : List ℕ) → (lines : List (List ℕ)) → Type 0
  FaultTells fault script_text step words lines = (script : Script) → IsScript script_text script →
      let r = run (specification_of s) turns script (steps_to fault step) in EndsBy fault step r.end × AreFaultWords fault r words lines

  abbrev pub BadTells : BadRun → (words : List ℕ) → (lines : List (List ℕ)) → Type 0
  BadTells bad words lines = FaultTells bad.fault (string_bytes bad.script) bad.step words lines
