use Rattle.std.proofs.Common.{refl, subst, sym}
use Rattle.std.proofs.lemmas.Result.{IfOk-weaker}
use Rattle.asm_eval.specs.code.ShownViews.{shown}
use Rattle.asm_eval.specs.code.Frames.{readings_of}
use Rattle.asm_eval.specs.code.Evaluation.{frame_locations}
use Rattle.asm_eval.specs.code.OneUpdate.{IsOneUpdate}
use Rattle.asm_eval.proofs.RuleYields.{skip_yields, assign_yields}
use Rattle.asm_eval.proofs.one_update.update_of_assignment.Goals as goal

pub returns-in-Skip : goal.returns-in-Skip
returns-in-Skip c turns chosen p =
    let a = c.args in
    let shape = a.view.now.signature.now in
    sym (skip_yields shape turns chosen (readings_of shape a.frame.now) (frame_locations shape a.frame.now) (shown a.view.now) p a.rule.now c.in-Skip.is)

pub returns-in-Assign : goal.returns-in-Assign
returns-in-Assign c =
    let a = c.args in
    let shape = a.view.now.signature.now in
    IfOk-weaker c.update_at.result _ _
    (λ is single turns chosen p. subst (IsOneUpdate shape is)
    (assign_yields shape turns chosen (readings_of shape a.frame.now) (frame_locations shape a.frame.now) (shown a.view.now) p a.rule.now c.in-Assign.place c.in-Assign.value c.in-Assign.is _ _ refl refl)
    single)
    c.update_at.ensures
