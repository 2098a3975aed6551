use Rattle.std.proofs.Common.{sym, subst}
use Rattle.std.specs.Prelude.{◌↔◌, IsTrue}
use Rattle.asm_state.specs.Signature.{Shape, state_of}
use Rattle.asm_syntax.specs.code.Views.{spec_of}
use Rattle.asm_check.specs.Shapes.{shape_of}
use Rattle.asm_meaning.specs.Declarations.{specification_of}
use Rattle.asm_code.specs.code.RuleViews.{rule_of}
use Rattle.asm_explore.specs.code.ChoicesMade.{made_in}
use Rattle.asm_explore.specs.code.StepOutcomes.{IsListed, IsStep}
use Rattle.asm_explore.specs.Search.{IsQuiet}
use Rattle.asm_explore.proofs.quiet_step.is_quiet_in.Goals as goal

pub returns-in_ok-all_stay-in-Ok-clause-quiet : goal.returns-in_ok-all_stay-in-Ok-clause-quiet
returns-in_ok-all_stay-in-Ok-clause-quiet c =
    let a = c.args in
    let m = a.specified.now in
    let s = spec_of m.checked.now.spec in
    let shape = shape_of s in
    let specification = specification_of s in
    let listed : IsStep shape specification m.turns (state_of shape a.state.now) c.as_slice.result.now =
    subst (IsStep shape specification m.turns (state_of shape a.state.now)) (sym c.as_slice.ensures.value)
    (subst (IsListed shape specification m.turns (made_in shape m.turns (rule_of m.code.now)) m.limit (state_of shape a.state.now)) c.in-Ok.is c.step_outcomes.ensures).step in
    subst (λ (sh : Shape). IsTrue c.in_ok-all_stay-in-Ok.field-0 ↔ IsQuiet specification m.turns (state_of sh a.state.now)) c.signature-signature.ensures
    (c.in_ok-all_stay-in-Ok.ensures specification m.turns
    (subst (λ (sh : Shape). IsStep sh specification m.turns (state_of sh a.state.now) c.as_slice.result.now) (sym c.signature-signature.ensures) listed))
