use Rattle.std.proofs.Common.{◌≡◌, ◌∙◌, sym, ap, subst}
use Rattle.asm_state.specs.Signature.{state_of}
use Rattle.asm_syntax.specs.code.Views.{spec_of}
use Rattle.asm_check.specs.Shapes.{shape_of}
use Rattle.asm_meaning.specs.Declarations.{program_of}
use Rattle.asm_code.specs.code.CodeViews.{code_of}
use Rattle.asm_code.specs.code.Readings.{reading}
use Rattle.asm_eval.specs.code.Frames.{IsSoundFrame, readings_of}
use Rattle.asm_eval.specs.code.ShownViews.{shown}
use Rattle.asm_explore_because.specs.Parts.{environment_of}
use Rattle.asm_explore_because.proofs.BoundFrames.{agrees_named}
use Rattle.asm_explore_because.proofs.value_under.value_at.Goals as goal

pub value-requires-clause-framed : goal.value-requires-clause-framed
value-requires-clause-framed c = subst (λ sh. IsSoundFrame sh c.args.positions.now.frame.now) (sym (c.new-view.ensures.parts.0 ∙ c.signature-signature.ensures)) c.requires.framed

pub returns-clause-value : goal.returns-clause-value
returns-clause-value c bound named =
    let scene = c.args.scene.now in
    let s = spec_of scene.checked.now.spec in
    let shape = shape_of s in
    let frame = c.args.positions.now.frame.now in
    let view = c.new-view.result in
    let code = code_of c.in_ok-code.code in
    let signature = c.signature-signature.result.now in
    let same : signature ≡ shape = c.signature-signature.ensures in
    let shows : shown view ≡ state_of shape scene.state.now =
    c.new-view.ensures.alone (c.new-nothing.ensures.empty signature c.count.ensures.sound c.count.ensures.count) ∙ ap (λ sh. state_of sh scene.state.now) same in
    let agrees = agrees_named (program_of s) shape c.args.positions.now.scope.now frame bound named in
    c.value.ensures ∙ ap (λ sh. reading sh code (readings_of sh frame) (shown view)) (c.new-view.ensures.parts.0 ∙ same)
    ∙ ap (reading shape code (readings_of shape frame)) shows ∙ c.in_ok-code.ensures.resolved.means (environment_of bound) (readings_of shape frame) (state_of shape scene.state.now) agrees
