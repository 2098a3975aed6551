-- Definition. Runs that are fine.
--     MayEnd A            a run may end in the state before its last step: it is quiet, and no
--                         deadlock, if this can be told
--     MadeRun             a script, and how many steps are made under it
--     steps_of made       how many steps are made in some runs
--     IsFineRun made      the run comes to its limit, through states that are right. A state in
--                         which one of its steps begins is no deadlock, if this can be told: the
--                         one in which the run ends isn't looked at, unless its last step left it
--                         as it was. It makes as many steps as are asked for, or fewer, if it may
--                         end in the state that it comes to
--     AreFine runs total  there are so many fine runs, of so many steps in all
use Rattle.std.specs.Prelude.{◌≡◌, ◌+◌, ◌≤◌, ◌<◌, ◌⊎◌, ℕ, Bool, true, List, [], ◌∷◌, length}
use Rattle.std.specs.List.{AllByRecursion}
use Rattle.asm_state.specs.Location.{State}
use Rattle.asm_reader.specs.ScriptLines.{Script}
use Rattle.asm_meaning.specs.Run.{AtLimit, Specification, run}
use Rattle.asm_explore.specs.Search.{IsAliveOrCrowded, IsQuiet}
use Rattle.asm_explore.specs.declared.outcomes.outcomes_error.RuleOverLimit.{RuleOverLimit}

pub record MadeRun : Type 0 where
  pub script : Script
  pub steps : ℕ

abbrev pub steps_of : List MadeRun → ℕ
steps_of [] = 0
steps_of (one ∷ others) = one.steps + steps_of others

module _ (specification : Specification) (turns : ℕ) (crowds : State → RuleOverLimit → Type 0) (rests : State → Bool) where
  abbrev pub MayEnd : State → Type 0
  MayEnd A = IsQuiet specification turns A × IsAliveOrCrowded specification turns crowds rests A

module _ (specification : Specification) (turns : ℕ) (crowds : State → RuleOverLimit → Type 0) (steps : ℕ) (right rests : State → Bool) where
  pub record IsFineRun (made : MadeRun) : Type 0 where
    pub limited : made.steps ≤ steps
    pub end : (run specification turns made.script made.steps).end ≡ AtLimit
    pub are_right : (k : ℕ) → k ≤ made.steps → right (run specification turns made.script k).last ≡ true
    pub alive : (k : ℕ) → k < made.steps → IsAliveOrCrowded specification turns crowds rests (run specification turns made.script k).last
    pub enough : (made.steps ≡ steps) ⊎ MayEnd specification turns crowds rests (run specification turns made.script made.steps).last

  pub record AreFine (runs total : ℕ) : Type 0 where
    pub made : List MadeRun
    pub count : length made ≡ runs
    pub sum : steps_of made ≡ total
    pub fine : AllByRecursion IsFineRun made
