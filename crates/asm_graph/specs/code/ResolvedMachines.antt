-- Bridge to the code. What a question about a resolved specification is about.
--     shape_in m, specification_in m     its shape, and what it says
--     within_in m                        from which states runs are followed
--     right_in m, rests_in m             which states are right, and in which runs may rest
--     crowds_in m                        which states have a step with too many outcomes
use Rattle.std.specs.Prelude.{Bool}
use Rattle.asm_state.specs.Location.{State}
use Rattle.asm_state.specs.Signature.{Shape}
use Rattle.asm_syntax.specs.code.Views.{spec_of}
use Rattle.asm_check.specs.Shapes.{shape_of}
use Rattle.asm_code.specs.code.RuleViews.{rule_of}
use Rattle.asm_meaning.specs.Declarations.{specification_of}
use Rattle.asm_meaning.specs.Run.{Specification}
use Rattle.asm_explore.specs.code.ChoicesMade.{made_in}
use Rattle.asm_explore.specs.code.ResolvedConditions.{holds_in}
use Rattle.asm_explore.specs.code.StepOutcomes.{IsOverLimitOf}
use Rattle.asm_explore.specs.declared.outcomes.outcomes_error.RuleOverLimit.{RuleOverLimit}
use Rattle.asm_explore.specs.declared.resolved_question.ResolvedQuestion.{ResolvedQuestion}

module _ (m : ResolvedQuestion) where
  abbrev pub shape_in : Shape
  shape_in = shape_of (spec_of m.checked.now.spec)

  abbrev pub specification_in : Specification
  specification_in = specification_of (spec_of m.checked.now.spec)

  abbrev pub within_in : State → Bool
  within_in = holds_in shape_in m.within.now

  abbrev pub right_in : State → Bool
  right_in = holds_in shape_in m.always.now

  abbrev pub rests_in : State → Bool
  rests_in = holds_in shape_in m.when_quiet.now

  abbrev pub crowds_in : State → RuleOverLimit → Type 0
  crowds_in = IsOverLimitOf (made_in shape_in m.turns (rule_of m.code.now)) m.limit
