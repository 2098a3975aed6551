use Rattle.std.proofs.Common.{sym, subst}
use Rattle.asm_state.specs.Signature.{state_of}
use Rattle.asm_syntax.specs.code.Views.{spec_of}
use Rattle.asm_check.specs.Shapes.{shape_of}
use Rattle.asm_meaning.specs.Declarations.{specification_of}
use Rattle.asm_code.specs.code.RuleViews.{rule_of}
use Rattle.asm_explore.specs.code.ChoicesMade.{made_in}
use Rattle.asm_explore.specs.code.StepOutcomes.{IsListed, IsStep}
use Rattle.asm_explore.proofs.specification.step_ahead.Goals as goal

pub look_ahead-requires-clause-step : goal.look_ahead-requires-clause-step
look_ahead-requires-clause-step c =
    let a = c.args in
    let m = a.specified.now in
    let s = spec_of m.checked.now.spec in
    let shape = shape_of s in
    subst (IsStep shape (specification_of s) m.turns (state_of shape a.state.now)) (sym c.as_slice.ensures.value)
    (subst (IsListed shape (specification_of s) m.turns (made_in shape m.turns (rule_of m.code.now)) m.limit (state_of shape a.state.now)) c.in-Ok.is c.step_outcomes.ensures).step
