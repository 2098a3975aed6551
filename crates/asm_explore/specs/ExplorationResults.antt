-- Definition. What an exploration's result claims of the runs of a specification.
--     IsSafeTo             each run of at most `depth` steps is fine, and no state that at most so
--                          many steps lead to is a deadlock
--     IsSafeIf             so it is up to a number of steps, if one is known; else each run of no
--                          step is fine
--     IsEarliest           no run goes wrong before a fault of this step. A deadlock after as many
--                          steps as lead to the step that has another fault comes first, unless its
--                          own step has too many outcomes to tell
--     IsBadRun             the text is that of the lines of a script, under which the run goes wrong
--                          in step `bad.step`, and none before; a deadlock is the state that this
--                          step begins in. They are those of the choices that this run makes
--     IsUnwritten          so does the run under a script, and the lines of the choices that it
--                          makes are too long for a script
--     Claims               what each finding says, when these states were reached
--     IsReachedBy          a run of at most `depth` steps comes to the state
--     IsLookedThrough      each state that runs are followed from was looked at, if fewer steps
--                          lead to it than the finding says, or whatever their number
--     IsQuietRun           the run of `rest.steps` steps under the script comes to a quiet state,
--                          and no shorter one does; its lines are those of the choices of this run
--     IsExplorationResult  what the whole result says
use Rattle.std.specs.Prelude.{◌≡◌, ◌≢◌, ◌≤◌, ◌<◌, ◌-◌, ℕ, suc, Bool, true, false, List, ◌∷◌, length, max, take, Option, Some, None, IfSome}
use Rattle.std.specs.String.{string_bytes}
use Rattle.asm_state.specs.Location.{State}
use Rattle.asm_reader.specs.ExactLines.{exactly}
use Rattle.asm_reader.specs.ScriptLines.{Line, Script}
use Rattle.asm_reader.specs.ScriptText.{IsScript}
use Rattle.asm_meaning.specs.Run.{AtLimit, Specification, run}
use Rattle.asm_explore.specs.declared.exploration_result.ExplorationResult.{ExplorationResult}
use Rattle.asm_explore.specs.declared.exploration_result.BadRun.{BadRun}
use Rattle.asm_explore.specs.declared.exploration_result.Finding.{Finding}
use Rattle.asm_explore.specs.declared.exploration_result.QuietRun.{QuietRun}
use Rattle.asm_explore.specs.declared.exploration_result.Unwritten.{Unwritten}
use Rattle.asm_explore.specs.declared.fault.Fault.{Fault}
use Rattle.asm_explore.specs.declared.fault.Fault.TheVariants as fault
use Rattle.asm_explore.specs.declared.outcomes.outcomes_error.RuleOverLimit.{RuleOverLimit}
use Rattle.asm_explore.specs.declared.exploration_result.Finding.TheVariants as finding
use Rattle.asm_explore.specs.ChosenLines.{AreTooLong, chosen_lines}
use Rattle.asm_explore.specs.ListElements.{Each}
use Rattle.asm_explore.specs.Search.{IsAliveOrCrowded, IsQuiet, IsDeadlock, IsSafeUpTo, IsSafe, HoldsBefore, HoldsAlways, GoesWrongIn, StaysWithin, steps_to}
use Rattle.asm_explore.specs.StateLists.{AreDifferent, Counts, IsAmongFirst}
use Rattle.asm_explore.specs.WrittenScripts.{IsTextOf}

-- up to how many steps it is safe, if that is known
abbrev pub known_to : Option ℕ → ℕ
known_to None = 0
known_to (Some depth) = depth

module _ (specification : Specification) (turns : ℕ) (within : State → Bool) where
  -- a state that a run of at most `depth` steps comes to
  abbrev pub IsReachedBy : (depth : ℕ) → State → Type 0
  IsReachedBy depth A =
      (script : Script) × (k : ℕ) × (k ≤ depth) × StaysWithin specification turns within script k
      × ((run specification turns script k).end ≡ AtLimit) × ((run specification turns script k).last ≡ A)

  -- the run of `rest.steps` steps comes to a quiet state, and no shorter one does
  pub record IsQuietRun (rest : QuietRun) : Type 0 where
    pub lines : List Line
    pub text : IsTextOf lines (string_bytes rest.script)
    pub spelled : IsScript (string_bytes rest.script) (exactly lines)
    pub chosen : lines ≡ chosen_lines specification turns (exactly lines) rest.steps
    pub end : (run specification turns (exactly lines) rest.steps).end ≡ AtLimit
    pub quiet : IsQuiet specification turns (run specification turns (exactly lines) rest.steps).last
    pub stays : StaysWithin specification turns within (exactly lines) (suc rest.steps)
    pub first : HoldsBefore specification turns within (λ A. ¬ (IsQuiet specification turns A)) rest.steps

  abbrev pub IsLookedThrough : (looked : State → Type 0) → Finding → Type 0
  IsLookedThrough looked finding.Closed = HoldsAlways specification turns within looked
  IsLookedThrough looked (finding.SafeTo depth) = HoldsBefore specification turns within looked depth
  IsLookedThrough looked (finding.BadStep bad) = HoldsBefore specification turns within looked (bad.step - 1)
  IsLookedThrough looked finding.WrongFirst = Unit {0}
  IsLookedThrough looked (finding.TooManyStates safe) = HoldsBefore specification turns within looked (known_to safe)
  IsLookedThrough looked (finding.TooManyOutcomes safe crowd) = HoldsBefore specification turns within looked (known_to safe)
  IsLookedThrough looked (finding.NoMemory safe) = HoldsBefore specification turns within looked (known_to safe)
  IsLookedThrough looked (finding.Unwritten unwritten) = HoldsBefore specification turns within looked (unwritten.step - 1)

-- how many steps lead at most to the states that are looked at first, when it is safe so far
abbrev pub beyond : Option ℕ → ℕ
beyond None = 0
beyond (Some depth) = suc depth

module _ (specification : Specification) (turns : ℕ) (crowds : State → RuleOverLimit → Type 0) (steps limit : ℕ) (right rests within : State → Bool) where
  abbrev IsAlive : State → Type 0
  IsAlive A = ¬ (IsDeadlock specification turns rests A)

  -- each run of at most `depth` steps that stays within is fine
  abbrev IsFineTo : (depth : ℕ) → Type 0
  IsFineTo depth = IsSafeUpTo specification turns within (λ A. right A ≡ true) depth

  -- and none of the states that they come to is a deadlock
  abbrev pub IsSafeTo : (depth : ℕ) → Type 0
  IsSafeTo depth = IsFineTo depth × HoldsBefore specification turns within IsAlive (suc depth)

  abbrev pub IsSafeIf : Option ℕ → Type 0
  IsSafeIf None = IsFineTo 0
  IsSafeIf (Some depth) = IsSafeTo depth

  pub record IsEarliest (kind : Fault) (step : ℕ) : Type 0 where
    pub limited : steps_to kind step ≤ steps
    pub before : ℕ
    pub next : step ≡ suc before
    pub fine : IsFineTo before
    pub alive : HoldsBefore specification turns within IsAlive before
    pub outranked : kind ≢ fault.Deadlock → HoldsBefore specification turns within (IsAliveOrCrowded specification turns crowds rests) (suc before)

  pub record IsBadRun (bad : BadRun) : Type 0 where
    pub lines : List Line
    pub text : IsTextOf lines (string_bytes bad.script)
    pub spelled : IsScript (string_bytes bad.script) (exactly lines)
    pub chosen : lines ≡ chosen_lines specification turns (exactly lines) (steps_to bad.fault bad.step)
    pub wrong : GoesWrongIn specification turns right rests (exactly lines) bad.fault bad.step
    pub stays : StaysWithin specification turns within (exactly lines) bad.step
    pub earliest : IsEarliest bad.fault bad.step

  -- the same, but the lines have no text
  pub record IsUnwritten (unwritten : Unwritten) : Type 0 where
    pub script : Script
    pub wrong : GoesWrongIn specification turns right rests script unwritten.fault unwritten.step
    pub stays : StaysWithin specification turns within script unwritten.step
    pub long : AreTooLong (chosen_lines specification turns script (steps_to unwritten.fault unwritten.step))
    pub earliest : IsEarliest unwritten.fault unwritten.step

  -- of too many states there is one more than were reached; of too many outcomes there is a state
  -- whose step has them
  abbrev pub Claims : (reached : List State) → Finding → Type 0
  Claims reached finding.Closed = IsSafe specification turns within (λ A. right A ≡ true) × HoldsAlways specification turns within IsAlive
  Claims reached (finding.SafeTo depth) = (depth ≡ steps) × IsSafeTo depth
  Claims reached (finding.BadStep bad) = IsBadRun bad
  Claims reached finding.WrongFirst = right specification.initial ≡ false
  Claims reached (finding.TooManyStates safe) =
      (limit ≤ length reached) × IsSafeIf safe
      × ((more : State) × AreDifferent (more ∷ reached) × Each (IsReachedBy specification turns within (suc (beyond safe))) (more ∷ reached))
  Claims reached (finding.TooManyOutcomes safe crowd) = IsSafeIf safe × ((A : State) × IsReachedBy specification turns within (beyond safe) A × crowds A crowd)
  Claims reached (finding.NoMemory safe) = IsSafeIf safe
  Claims reached (finding.Unwritten unwritten) = IsUnwritten unwritten

  pub record IsExplorationResult (answer : ExplorationResult) : Type 0 where
    -- `answer.states` different states, no more than the limit, or one if this is 0, each by a run
    -- of at most `answer.depth` steps
    pub reached : List State
    pub different : AreDifferent reached
    pub count : length reached ≡ answer.states
    pub room : answer.states ≤ max limit 1
    pub reach : Each (IsReachedBy specification turns within answer.depth) reached
    pub found : Claims reached answer.finding
    -- the first `looked` of them were looked at, if runs are followed from them. Of these
    -- `answer.quiet` are quiet
    pub looked : ℕ
    pub quiet : Counts (λ A. (within A ≡ true) × IsQuiet specification turns A) (take looked reached) answer.quiet
    pub through : IsLookedThrough specification turns within (IsAmongFirst looked reached) answer.finding
    pub rest : IfSome answer.first_quiet (λ rest. (0 < answer.quiet) × IsQuietRun specification turns within rest)
