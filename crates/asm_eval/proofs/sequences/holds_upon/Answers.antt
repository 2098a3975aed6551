use Rattle.std.proofs.Common.{◌≡◌, ◌∙◌, ap, subst}
use Rattle.asm_meaning.specs.Value.{is_true}
use Rattle.asm_eval.specs.code.ShownViews.{shown}
use Rattle.asm_code.specs.code.CodeViews.{code_of}
use Rattle.asm_code.specs.code.Readings.{reading}
use Rattle.asm_eval.specs.code.Frames.{readings_of}
use Rattle.asm_eval.specs.code.Evaluation.{evaluation_shape}
use Rattle.asm_eval.proofs.sequences.holds_upon.Goals as goal

pub returns : goal.returns
returns g c U stands consistent =
    let a = c.args in
    let shape = evaluation_shape a.evaluation.now in
    let v = c.upon-view.result in
    subst (λ s. c.holds.result ≡ is_true (reading s (code_of a.test.now) (readings_of s a.frame.now) (shown v))) c.upon-view.ensures.signature c.holds.ensures
    ∙ ap (λ A. is_true (reading shape (code_of a.test.now) (readings_of shape a.frame.now) A)) (c.upon-view.ensures.fired U stands consistent)
