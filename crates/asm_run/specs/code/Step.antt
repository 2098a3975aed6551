-- Bridge to the code. One step of a run, and its last lines.
--     main_outcome    what the main rule yields in a step in which the locations have these
--                     contents
--     AreSized        contents and summary fit the signature
--     IsFired         its set is fired, and this is the text of the step
--     IsStopped       its set has a fault, or it has none, and the run ends so
--     Finishes        what the last lines do to the bytes of a sink
use Rattle.std.specs.Prelude.{◌≡◌, ℕ, Bool, true, false, List, [], length, Option, Result, Ok, Err}
use Rattle.std.specs.Io.KnownBytes.{Appends}
use Rattle.asm_state.specs.declared.value.Value.{Value}
use Rattle.asm_state.specs.Signature.{count_of, state_of}
use Rattle.asm_state.specs.Updates.{UpdateSet, IsConsistent, fire}
use Rattle.asm_syntax.specs.SourceTree.{Spec}
use Rattle.asm_reader.specs.ScriptLines.{Script}
use Rattle.asm_check.specs.Shapes.{shape_of}
use Rattle.asm_meaning.specs.Declarations.{specification_of}
use Rattle.asm_meaning.specs.Does.{Outcome}
use Rattle.asm_meaning.specs.Run.{AtExhausted, AtFault, step}
use Rattle.asm_meaning.specs.Yields as yields
use Rattle.asm_meaning.specs.Yields.{Gives, Exhausted}
use Rattle.asm_run.specs.declared.end.End.{End}
use Rattle.asm_run.specs.declared.error.RunError.{RunError}
use Rattle.asm_run.specs.declared.error.RunError.TheVariants as error
use Rattle.asm_run.specs.Headline.{IsReturned}
use Rattle.asm_run.specs.Sink.{AppendsFront}
use Rattle.asm_run.specs.Trace.{step_text}
use Rattle.asm_run.specs.Written.{names_in, locations_in}

abbrev pub main_outcome : Spec → (turns : ℕ) → Script → ℕ → (contents : List Value) → Outcome
main_outcome s turns script i contents = step (specification_of s) turns script i (state_of (shape_of s) contents)

pub record AreSized (s : Spec) (contents : List Value) (count : ℕ) : Type 0 where
  pub contents_fit : length contents ≡ count_of (shape_of s)
  pub set_fits : count ≡ count_of (shape_of s)

pub record IsFired (s : Spec) (turns : ℕ) (script : Script) (step : ℕ) (old new : List Value) (text : List ℕ) : Type 0 where
  pub set : UpdateSet
  pub gives : (main_outcome s turns script step old).result ≡ Gives set
  pub consistent : IsConsistent set
  pub fired : state_of (shape_of s) new ≡ fire (state_of (shape_of s) old) set
  pub written : text ≡ step_text (names_in s) (locations_in s) step (record { set = set; instances = (main_outcome s turns script step old).instances })

-- how what a step yields ends a run, unless it is fired
abbrev pub EndsBy : (step : ℕ) → yields.Result → End → Type 0
EndsBy step (Gives U) e = IsReturned (AtFault step U) e
EndsBy step (Exhausted p) e = IsReturned (AtExhausted step p) e

-- the run ends so in this step
abbrev pub IsStopped : Spec → (turns : ℕ) → Script → (step : ℕ) → (old new : List Value) → End → Type 0
IsStopped s turns script step old new e = EndsBy step (main_outcome s turns script step old).result e × (new ≡ old)

-- the last lines: all of them, none if memory ran out, or a front if the sink failed
abbrev pub Finishes : Option (List ℕ) → Option (List ℕ) → (failed : Bool) → List ℕ → End → Result End RunError → Type 0
Finishes old new failed text e (Ok answer) = Appends old new text × (failed ≡ false) × (answer ≡ e)
Finishes old new failed text e (Err error.Memory) = Appends old new [] × (failed ≡ false)
Finishes old new failed text e (Err error.Write) = AppendsFront old new text × (failed ≡ true)
Finishes old new failed text e (Err error.Limits) = ⊥
Finishes old new failed text e (Err (error.Read refusal)) = ⊥
Finishes old new failed text e (Err (error.Check refusal)) = ⊥
Finishes old new failed text e (Err (error.Script refusal)) = ⊥
