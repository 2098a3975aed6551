-- Bridge to the code. The runs of a resolved specification, and what is asked of them.
--     shape_in m, specification_in m     its shape, and what it says
--     right_in m, rests_in m             which states are right, and in which runs may rest
--     crowds_in m                        which states have a step with too many outcomes
--     IsDead m                           which states are deadlocks
--     IsPassed m                         which aren't, if this can be told
--     CanRun m                           its codes are sound, and its first state is right
use Rattle.std.specs.Prelude.{◌≡◌, Bool, true}
use Rattle.asm_state.specs.Location.{State}
use Rattle.asm_state.specs.Signature.{Shape}
use Rattle.asm_syntax.specs.code.Views.{spec_of}
use Rattle.asm_check.specs.Shapes.{shape_of}
use Rattle.asm_meaning.specs.Declarations.{specification_of}
use Rattle.asm_meaning.specs.Run.{Specification}
use Rattle.asm_explore.specs.Search.{IsAliveOrCrowded, IsDeadlock}
use Rattle.asm_explore.specs.code.MainRule.{IsMainOverLimit}
use Rattle.asm_explore.specs.code.ResolvedConditions.{IsSpecified, holds_in}
use Rattle.asm_explore.specs.declared.outcomes.outcomes_error.RuleOverLimit.{RuleOverLimit}
use Rattle.asm_explore.specs.declared.resolved_question.ResolvedQuestion.{ResolvedQuestion}

module _ (m : ResolvedQuestion) where
  abbrev pub shape_in : Shape
  shape_in = shape_of (spec_of m.checked.now.spec)

  abbrev pub specification_in : Specification
  specification_in = specification_of (spec_of m.checked.now.spec)

  abbrev pub right_in : State → Bool
  right_in = holds_in shape_in m.always.now

  abbrev pub rests_in : State → Bool
  rests_in = holds_in shape_in m.when_quiet.now

  abbrev pub crowds_in : State → RuleOverLimit → Type 0
  crowds_in = IsMainOverLimit m.checked.now m.turns m.limit

  abbrev pub IsDead : State → Type 0
  IsDead = IsDeadlock specification_in m.turns rests_in

  abbrev pub IsPassed : State → Type 0
  IsPassed = IsAliveOrCrowded specification_in m.turns crowds_in rests_in

  pub record CanRun : Type 0 where
    pub specified : IsSpecified m
    pub right : right_in specification_in.initial ≡ true
