use Rattle.std.proofs.Common.{◌≡◌, ◌∙◌, ap, subst}
use Rattle.std.specs.Prelude.{IfOk, IfSome, option_map, ◌<◌}
use Rattle.std.proofs.lemmas.Result.{IfOk-weaker}
use Rattle.asm_state.specs.Signature.{count_of}
use Rattle.asm_eval.specs.code.ShownViews.{shown}
use Rattle.asm_code.specs.code.RuleMeaning.{optional_target_location}
use Rattle.asm_code.specs.code.RuleViews.{target_code_of}
use Rattle.asm_eval.specs.code.Frames.{readings_of}
use Rattle.asm_eval.specs.code.Evaluation.{evaluation_shape, frame_locations, location_numbered}
use Rattle.asm_eval.proofs.sequences.target_upon.Goals as goal

pub returns-clause-in_range : goal.returns-clause-in_range
returns-clause-in_range g c =
    subst (λ s. IfOk c.optional_target_number.result (λ o. IfSome o (λ n. n < count_of s))) c.upon-view.ensures.signature c.optional_target_number.ensures.in_range

pub returns-clause-location : goal.returns-clause-location
returns-clause-location g c U stands consistent =
    let a = c.args in
    let shape = evaluation_shape a.evaluation.now in
    let to = option_map target_code_of a.answer.now in
    let v = c.upon-view.result in
    IfOk-weaker c.optional_target_number.result _ _
    (λ o there. there ∙ ap (optional_target_location shape to (readings_of shape a.frame.now) (frame_locations shape a.frame.now)) (c.upon-view.ensures.fired U stands consistent))
    (subst (λ s. IfOk c.optional_target_number.result (λ o. location_numbered s o ≡ optional_target_location s to (readings_of s a.frame.now) (frame_locations s a.frame.now) (shown v))) c.upon-view.ensures.signature c.optional_target_number.ensures.location)
