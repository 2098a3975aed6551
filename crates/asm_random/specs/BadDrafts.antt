-- Definition. Runs that go wrong.
--     IsWrongUnder script step f    the run under the script goes wrong by this fault in this step,
--                                   which is one of those asked for. The states before it are right,
--                                   and no deadlocks, if this can be told. A deadlock is the state
--                                   that the step begins in
use Rattle.std.specs.Prelude.{◌≡◌, ℕ, Bool, true, ◌<◌, ◌≤◌}
use Rattle.asm_state.specs.Location.{State}
use Rattle.asm_reader.specs.ScriptLines.{Script}
use Rattle.asm_meaning.specs.Run.{Specification, run}
use Rattle.asm_explore.specs.declared.fault.Fault.{Fault}
use Rattle.asm_explore.specs.declared.outcomes.outcomes_error.RuleOverLimit.{RuleOverLimit}
use Rattle.asm_explore.specs.Search.{IsAliveOrCrowded, GoesWrongIn, steps_to}

module _ (specification : Specification) (turns : ℕ) (crowds : State → RuleOverLimit → Type 0) (steps : ℕ) (right rests : State → Bool) where
  pub record IsWrongUnder (script : Script) (step : ℕ) (f : Fault) : Type 0 where
    pub counted : 0 < step
    pub limited : step ≤ steps
    pub wrong : GoesWrongIn specification turns right rests script f step
    pub before : (k : ℕ) → k < step → right (run specification turns script k).last ≡ true
    pub alive : (k : ℕ) → k < steps_to f step → IsAliveOrCrowded specification turns crowds rests (run specification turns script k).last
