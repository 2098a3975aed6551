-- Definition. What is claimed of all runs of a specification.
--     LeadsOn r A known       what a step yields in a state leads on to a state that is known
--     IsQuiet A               whatever is chosen, the step from the state changes nothing
--     IsDeadlock A            the state is quiet, and isn't one in which a run may rest
--     IsAliveOrCrowded A      it is no deadlock, or its step has too many outcomes to tell
--     IsFine r ok             a run ends at its limit, in a state that is right
--     StaysWithin             a run of `limit` steps is gone on with from states alone that are
--                             within
--     IsSafeUpTo              under every script, each run of at most `depth` steps that stays
--                             within is fine
--     IsSafe                  of however many steps
--     HoldsBefore, HoldsAlways    it holds of each state that runs are followed from, which fewer
--                                 than `depth` steps lead to; and of all of them
--     EndsSo                  a run ends in this step by this fault, or in a state that isn't
--                             right, or in a deadlock
--     steps_to                the steps that lead to a fault of a step; a deadlock is the state that
--                             the step begins in
--     GoesWrongIn             a run goes wrong in this step by this fault
--     Covers                  states by the depth up to which they are known: they are right, and
--                             no step from one of them that is within has a fault, nor leads to a
--                             state that isn't known one step deeper
use Rattle.std.specs.Prelude.{◌≡◌, ◌⊎◌, ℕ, suc, ◌≤◌, ◌<◌, ◌-◌, Bool, true, false}
use Rattle.asm_state.specs.Location.{State}
use Rattle.asm_state.specs.Updates.{UpdateSet, IsConsistent, fire}
use Rattle.asm_reader.specs.ScriptLines.{Script}
use Rattle.asm_meaning.specs.Run.{Run, AtLimit, AtExhausted, AtFault, Specification, run, step}
use Rattle.asm_meaning.specs.Yields.{Path, Result, Gives}
use Rattle.asm_explore.specs.declared.fault.Fault.{Fault}
use Rattle.asm_explore.specs.declared.fault.Fault.TheVariants as fault
use Rattle.asm_explore.specs.declared.outcomes.outcomes_error.RuleOverLimit.{RuleOverLimit}

-- what a step yields in a state leads on to a state that is known
pub record LeadsOn (r : Result) (A : State) (known : State → Type 0) : Type 0 where
  pub set : UpdateSet
  pub gives : r ≡ Gives set
  pub consistent : IsConsistent set
  pub leads : known (fire A set)

-- whatever is chosen, the step from the state changes nothing
abbrev pub IsQuiet : Specification → (turns : ℕ) → State → Type 0
IsQuiet specification turns A =
    (script : Script) (i : ℕ) → LeadsOn (step specification turns script i A).result A (λ B. B ≡ A)

abbrev pub IsDeadlock : Specification → (turns : ℕ) → (rests : State → Bool) → State → Type 0
IsDeadlock specification turns rests A = IsQuiet specification turns A × (rests A ≡ false)

abbrev pub IsAliveOrCrowded : Specification → (turns : ℕ) → (crowds : State → RuleOverLimit → Type 0) → (rests : State → Bool) → State → Type 0
IsAliveOrCrowded specification turns crowds rests A = ¬ (IsDeadlock specification turns rests A) ⊎ ((crowd : RuleOverLimit) × crowds A crowd)

abbrev pub IsFine : (ok : State → Type 0) → Run → Type 0
IsFine ok r = (r.end ≡ AtLimit) × ok r.last

-- the states that fewer steps lead to are within
abbrev pub StaysWithin : Specification → (turns : ℕ) → (within : State → Bool) → Script → (limit : ℕ) → Type 0
StaysWithin specification turns within script limit = (k : ℕ) → k < limit → within (run specification turns script k).last ≡ true

abbrev pub IsSafeUpTo : Specification → (turns : ℕ) → (within : State → Bool) → (ok : State → Type 0) → (depth : ℕ) → Type 0
IsSafeUpTo specification turns within ok depth =
    (script : Script) (limit : ℕ) → limit ≤ depth → StaysWithin specification turns within script limit → IsFine ok (run specification turns script limit)

abbrev pub IsSafe : Specification → (turns : ℕ) → (within : State → Bool) → (ok : State → Type 0) → Type 0
IsSafe specification turns within ok =
    (script : Script) (limit : ℕ) → StaysWithin specification turns within script limit → IsFine ok (run specification turns script limit)

-- it holds of each state that fewer than `depth` steps lead to, if runs are followed from it
abbrev pub HoldsBefore : Specification → (turns : ℕ) → (within : State → Bool) → (D : State → Type 0) → (depth : ℕ) → Type 0
HoldsBefore specification turns within D depth =
    (script : Script) (k : ℕ) → k < depth → StaysWithin specification turns within script (suc k) → D (run specification turns script k).last

-- that however many steps lead to
abbrev pub HoldsAlways : Specification → (turns : ℕ) → (within : State → Bool) → (D : State → Type 0) → Type 0
HoldsAlways specification turns within D = (script : Script) (k : ℕ) → StaysWithin specification turns within script (suc k) → D (run specification turns script k).last

abbrev pub EndsSo : (right : State → Bool) → (dead : State → Type 0) → Fault → (step : ℕ) → Run → Type 0
EndsSo right dead fault.Exhausted step r = (q : Path) × (r.end ≡ AtExhausted step q)
EndsSo right dead fault.Inconsistent step r = (U : UpdateSet) × (r.end ≡ AtFault step U) × ¬ (IsConsistent U)
EndsSo right dead fault.Wrong step r = (r.end ≡ AtLimit) × (right r.last ≡ false)
EndsSo right dead fault.Deadlock step r = (r.end ≡ AtLimit) × dead r.last

abbrev pub steps_to : Fault → (step : ℕ) → ℕ
steps_to fault.Deadlock step = step - 1
steps_to _ step = step

abbrev pub GoesWrongIn : Specification → (turns : ℕ) → (right rests : State → Bool) → Script → Fault → (step : ℕ) → Type 0
GoesWrongIn specification turns right rests script kind step =
    EndsSo right (IsDeadlock specification turns rests) kind step (run specification turns script (steps_to kind step))

pub record Covers (specification : Specification) (turns : ℕ) (within : State → Bool) (ok : State → Type 0) (depth : ℕ) (known : ℕ → State → Type 0) : Type 0 where
  pub begins : known 0 specification.initial
  pub right : (d : ℕ) (A : State) → d ≤ depth → known d A → ok A
  pub goes_on : (d : ℕ) (A : State) → d < depth → known d A → within A ≡ true → (script : Script) (i : ℕ)
      → LeadsOn (step specification turns script i A).result A (known (suc d))
