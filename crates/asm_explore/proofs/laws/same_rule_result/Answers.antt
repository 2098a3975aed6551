use Rattle.asm_syntax.specs.code.Views.{spec_of}
use Rattle.asm_check.specs.Shapes.{shape_of}
use Rattle.asm_meaning.specs.Declarations.{specification_of}
use Rattle.asm_explore.specs.code.MainRule.{IsMainOverLimit}
use Rattle.asm_explore.specs.code.ChoicesMade.{made_in}
use Rattle.asm_explore.specs.code.StepOutcomes.{IsOverLimitOf}
use Rattle.asm_explore.proofs.OverLimits.{over_limit}
use Rattle.asm_explore.proofs.Specifications.{same_rule_result}
use Rattle.asm_explore.proofs.laws.same_rule_result.Goals as goal

pub returns : goal.returns
returns c = λ checked P turns outcomes steps states right rests within also rested inside answer resolved same alike equal.
    let s = spec_of checked.spec in
    same_rule_result (specification_of s) turns (IsOverLimitOf (made_in (shape_of s) turns P) outcomes) (IsMainOverLimit checked turns outcomes) (over_limit checked turns outcomes P resolved) steps states
    right rests within also rested inside answer same alike equal
