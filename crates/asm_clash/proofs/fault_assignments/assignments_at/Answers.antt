use Rattle.std.proofs.Common.{◌≡◌, ◌<◌, ◌∙◌, [], ap, sym, subst}
use Rattle.asm_state.specs.Signature.{Shape, count_of, location_at, state_of}
use Rattle.asm_reader.specs.ScriptLines.{pick}
use Rattle.asm_eval.specs.code.ShownViews.{shown}
use Rattle.asm_code.specs.code.RuleStories.{telling}
use Rattle.asm_code.specs.code.RuleViews.{rule_of}
use Rattle.asm_step.specs.code.Steps.{shape_in}
use Rattle.asm_clash.specs.Standing.{stands}
use Rattle.asm_clash.specs.code.FirstFound.{IsFound}
use Rattle.asm_clash.proofs.fault_assignments.assignments_at.Goals as goal

pub standing_in-requires-clause-number : goal.standing_in-requires-clause-number
standing_in-requires-clause-number c = subst (λ (sh : Shape). c.args.location < count_of sh) (sym (c.new-view.ensures.parts.0 ∙ c.signature-signature.ensures)) c.requires.number

pub returns : goal.returns
returns c =
    let a = c.args in
    let m = a.resolved.now in
    let shape = shape_in m in
    let same = c.signature-signature.ensures in
    let viewed : c.new-view.result.signature.now ≡ shape = c.new-view.ensures.parts.0 ∙ same in
    let shows : shown c.new-view.result ≡ state_of shape a.state.now =
    c.new-view.ensures.alone (c.new-nothing.ensures.empty c.signature-signature.result.now c.count.ensures.sound c.count.ensures.count)
    ∙ ap (λ sh. state_of sh a.state.now) same in
    let top : c.new-2.result ≡ [] = c.new-2.ensures ∙ c.new.ensures.items in
    let chosen = pick a.choices.now.script.now a.choices.now.step in
    subst (λ xs. IsFound a.most xs c.in_ok-found.found)
    (λ j. stands (location_at (viewed j) a.location) (telling (viewed j) m.turns chosen (rule_of m.code.now) [] [] [] (shows j) (top j)))
    c.in_ok-found.ensures
