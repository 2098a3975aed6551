-- Definition. What a result claims of random runs.
--     IsBadScript bad       the text is that of the lines of a script, under which the run goes
--                           wrong; they are those of the choices that this run makes
--     IsUnwrittenRun        the run under a script goes wrong, and the lines of the choices that it
--                           makes are too long for a script
--     Claims                what each finding says of the run that goes wrong, if there is one
--     IsLast                the run with this number is the last one that was made, of as many as
--                           are asked for, and the runs before it are fine. Under some script it
--                           goes wrong in its last step: the steps up to this one are counted. A
--                           fault that is shown comes in no later step, and is a deadlock if that
--                           one is, and else is none
--     Counts                how many runs and steps were made: without a bad run as many runs as
--                           are asked for, all of which are fine
use Rattle.std.specs.Prelude.{◌≡◌, ◌↔◌, ◌+◌, ◌≤◌, ℕ, suc, Bool, false, List}
use Rattle.std.specs.String.{string_bytes}
use Rattle.asm_state.specs.Location.{State}
use Rattle.asm_reader.specs.ExactLines.{exactly}
use Rattle.asm_reader.specs.ScriptLines.{Line, Script}
use Rattle.asm_reader.specs.ScriptText.{IsScript}
use Rattle.asm_meaning.specs.Run.{Specification}
use Rattle.asm_explore.specs.declared.exploration_result.BadRun.{BadRun}
use Rattle.asm_explore.specs.declared.exploration_result.Unwritten.{Unwritten}
use Rattle.asm_explore.specs.declared.fault.Fault.{Fault}
use Rattle.asm_explore.specs.declared.fault.Fault.TheVariants as fault
use Rattle.asm_explore.specs.declared.outcomes.outcomes_error.RuleOverLimit.{RuleOverLimit}
use Rattle.asm_random.specs.declared.random_result.RandomFinding.{RandomFinding}
use Rattle.asm_random.specs.declared.random_result.RandomFinding.TheVariants as finding
use Rattle.asm_random.specs.BadDrafts.{IsWrongUnder}
use Rattle.asm_explore.specs.ChosenLines.{AreTooLong, chosen_lines}
use Rattle.asm_explore.specs.Search.{steps_to}
use Rattle.asm_explore.specs.WrittenScripts.{IsTextOf}
use Rattle.asm_random.specs.FineRuns.{AreFine}

module _ (specification : Specification) (turns : ℕ) (crowds : State → RuleOverLimit → Type 0) (steps : ℕ) (right rests : State → Bool) where
  abbrev IsWrong : Script → (step : ℕ) → Fault → Type 0
  IsWrong = IsWrongUnder specification turns crowds steps right rests

  pub record IsBadScript (bad : BadRun) : Type 0 where
    pub lines : List Line
    pub text : IsTextOf lines (string_bytes bad.script)
    pub spelled : IsScript (string_bytes bad.script) (exactly lines)
    pub chosen : lines ≡ chosen_lines specification turns (exactly lines) (steps_to bad.fault bad.step)
    pub wrong : IsWrong (exactly lines) bad.step bad.fault

  pub record IsUnwrittenRun (unwritten : Unwritten) : Type 0 where
    pub script : Script
    pub wrong : IsWrong script unwritten.step unwritten.fault
    pub long : AreTooLong (chosen_lines specification turns script (steps_to unwritten.fault unwritten.step))

  abbrev pub Claims : RandomFinding → Type 0
  Claims finding.Nothing = Unit {0}
  Claims (finding.Bad number bad) = IsBadScript bad
  Claims finding.WrongFirst = right specification.initial ≡ false
  Claims (finding.Unwritten unwritten) = IsUnwrittenRun unwritten

  -- runs have numbers from 0; the fault that is shown is in step `step`
  pub record IsLast (asked runs total number step : ℕ) (shown : Fault) : Type 0 where
    pub count : runs ≡ suc number
    pub limited : runs ≤ asked
    pub before : ℕ
    pub fine : AreFine specification turns crowds steps right rests number before
    pub drawn : Script
    pub last : ℕ
    pub kind : Fault
    pub wrong : IsWrong drawn last kind
    pub sum : total ≡ before + last
    pub no_later : step ≤ last
    pub same_kind : (shown ≡ fault.Deadlock) ↔ (kind ≡ fault.Deadlock)

  abbrev pub Counts : (asked runs total : ℕ) → RandomFinding → Type 0
  Counts asked runs total finding.Nothing = (runs ≡ asked) × AreFine specification turns crowds steps right rests runs total
  Counts asked runs total (finding.Bad number bad) = IsLast asked runs total number bad.step bad.fault
  Counts asked runs total finding.WrongFirst = (runs ≡ 0) × (total ≡ 0)
  Counts asked runs total (finding.Unwritten unwritten) = (number : ℕ) × IsLast asked runs total number unwritten.step unwritten.fault
