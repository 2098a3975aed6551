use Rattle.std.proofs.Common.{subst, sym, ◌∙◌}
use Rattle.std.proofs.lemmas.Result.{IfOk-weaker}
use Rattle.asm_eval.specs.code.ShownViews.{shown}
use Rattle.asm_meaning.specs.Yields.{at}
use Rattle.asm_eval.specs.code.Frames.{readings_of}
use Rattle.asm_eval.specs.code.Evaluation.{frame_locations}
use Rattle.asm_eval.specs.code.OneUpdate.{IsOneUpdate}
use Rattle.asm_eval.proofs.RuleYields.{if_yes, if_no}
use Rattle.asm_eval.proofs.one_update.update_of_branch.Goals as goal

pub returns-then-holds : goal.returns-then-holds
returns-then-holds c =
    let a = c.args in
    let shape = a.view.now.signature.now in
    IfOk-weaker c.update_of_assignment.result _ _
    (λ is single turns chosen p. subst (IsOneUpdate shape is)
    (if_yes shape turns chosen (readings_of shape a.frame.now) (frame_locations shape a.frame.now) (shown a.view.now) p a.test.now a.yes.now a.no.now (sym c.holds.ensures ∙ c.if-holds.true))
    (single turns chosen (at p 0)))
    c.update_of_assignment.ensures

pub returns-else-holds : goal.returns-else-holds
returns-else-holds c =
    let a = c.args in
    let shape = a.view.now.signature.now in
    IfOk-weaker c.update_of_assignment-else-holds.result _ _
    (λ is single turns chosen p. subst (IsOneUpdate shape is)
    (if_no shape turns chosen (readings_of shape a.frame.now) (frame_locations shape a.frame.now) (shown a.view.now) p a.test.now a.yes.now a.no.now (sym c.holds.ensures ∙ c.if-holds.false))
    (single turns chosen (at p 1)))
    c.update_of_assignment-else-holds.ensures
