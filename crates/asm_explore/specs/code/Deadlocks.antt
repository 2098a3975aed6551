-- Bridge to the code. Deadlocks among the nodes of one depth.
--     IsJudged A judged          of a state it is told whether it is a deadlock that runs are
--                                followed from
--     AreJudged first last d     so it is of the nodes of this depth, of those with numbers from
--                                the first one on and below the last one
--     IsFound d                  a node of this depth is one
--     AreKnown first d           of the nodes of this depth, from one on, what is found
--     AreTold deadlocks          of each it is known, or its step has too many outcomes
--     safe_of whole deadlocks    up to how many steps it is safe
use Rattle.std.specs.Prelude.{◌≡◌, ◌≤◌, ◌<◌, ◌⊎◌, ℕ, zero, suc, Bool, true, List, length, Option, Some, None, slice_get}
use Rattle.asm_state.specs.Location.{State}
use Rattle.asm_state.specs.Signature.{Shape}
use Rattle.asm_meaning.specs.Run.{Specification}
use Rattle.asm_explore.specs.declared.outcomes.outcomes_error.RuleOverLimit.{RuleOverLimit}
use Rattle.asm_explore.specs.declared.states.deadlocks.Judged.{Judged}
use Rattle.asm_explore.specs.declared.states.deadlocks.Judged.TheVariants as judged
use Rattle.asm_explore.specs.declared.states.deadlocks.Deadlocks.{Deadlocks}
use Rattle.asm_explore.specs.declared.states.deadlocks.Deadlocks.TheVariants as found
use Rattle.asm_explore.specs.code.PackedNodes.{Node}
use Rattle.asm_explore.specs.code.ReachedStates.{state_at}
use Rattle.asm_explore.specs.Search.{IsDeadlock}

module _ (specification : Specification) (turns : ℕ) (crowds : State → RuleOverLimit → Type 0) (rests within : State → Bool) where
  abbrev pub LivesInside : State → Type 0
  LivesInside A = within A ≡ true → ¬ (IsDeadlock specification turns rests A)

  abbrev pub MayLiveInside : State → Type 0
  MayLiveInside A = LivesInside A ⊎ ((crowd : RuleOverLimit) × crowds A crowd)

  abbrev pub IsJudged : State → Judged → Type 0
  IsJudged A judged.Alive = LivesInside A
  IsJudged A judged.Dead = (within A ≡ true) × IsDeadlock specification turns rests A
  IsJudged A (judged.Crowded crowd) = crowds A crowd

  module _ (shape : Shape) (nodes : List Node) where
    -- what holds of the states of the nodes of this depth, of those in between
    abbrev pub HoldsBetween : (first last depth : ℕ) → (State → Type 0) → Type 0
    HoldsBetween first last depth D =
        (number : ℕ) (n : Node) → first ≤ number → number < last → slice_get nodes number ≡ Some n → n.depth ≡ depth → D (state_at shape n)

    abbrev pub IsThere : (number depth : ℕ) → (State → Type 0) → Type 0
    IsThere number depth D = (n : Node) × (slice_get nodes number ≡ Some n) × (n.depth ≡ depth) × D (state_at shape n)

    abbrev pub AreJudged : (first last depth : ℕ) → Deadlocks → Type 0
    AreJudged first last depth found.None = HoldsBetween first last depth LivesInside
    AreJudged first last depth (found.At number) = ⊥
    AreJudged first last depth (found.Unknown number crowd) = HoldsBetween first last depth MayLiveInside × IsThere number depth (λ A. crowds A crowd)
    AreJudged first last depth found.NoMemory = ⊥

    abbrev pub AreKnown : (first depth : ℕ) → Deadlocks → Type 0
    AreKnown first depth found.None = AreJudged first (length nodes) depth found.None
    AreKnown first depth (found.At number) = IsThere number depth (λ A. (within A ≡ true) × IsDeadlock specification turns rests A)
    AreKnown first depth (found.Unknown number crowd) = AreJudged first (length nodes) depth (found.Unknown number crowd)
    AreKnown first depth found.NoMemory = Unit {0}

abbrev pub AreTold : Deadlocks → Type 0
AreTold found.None = Unit {0}
AreTold (found.At number) = ⊥
AreTold (found.Unknown number crowd) = Unit {0}
AreTold found.NoMemory = ⊥

abbrev pub before : ℕ → Option ℕ
before zero = None
before (suc whole) = Some whole

abbrev pub safe_of : (whole : ℕ) → Deadlocks → Option ℕ
safe_of whole found.None = Some whole
safe_of whole _ = before whole
