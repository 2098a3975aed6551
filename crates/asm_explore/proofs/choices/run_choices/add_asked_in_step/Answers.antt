use Rattle.std.proofs.Common.{◌≡◌, ◌∙◌, ◌++◌, [], ap}
use Rattle.std.proofs.lemmas.Result.{on_ok_weaker}
use Rattle.asm_state.specs.Signature.{state_of}
use Rattle.asm_syntax.specs.code.Views.{spec_of}
use Rattle.asm_check.specs.Faults.{inits}
use Rattle.asm_check.specs.Shapes.{shape_of}
use Rattle.asm_reader.specs.ScriptLines.{pick}
use Rattle.asm_meaning.specs.Declarations.{main_rule}
use Rattle.asm_eval.specs.code.ShownViews.{shown}
use Rattle.asm_code.specs.code.RuleViews.{rule_of}
use Rattle.asm_explore.specs.ChoicePoints.{asked}
use Rattle.asm_explore.specs.code.AskedRules.{asks}
use Rattle.asm_explore.specs.code.AskedPieces.{all_said}
use Rattle.asm_explore.proofs.choices.run_choices.add_asked_in_step.Goals as goal

pub returns : goal.returns
returns g c =
    let a = c.args in
    let m = a.resolved.now in
    let s = spec_of m.checked.now.spec in
    let shape = shape_of s in
    let signature = c.signature-signature.result.now in
    let same : signature ≡ shape = c.signature-signature.ensures in
    let viewed : c.new-view.result.signature.now ≡ shape = c.new-view.ensures.parts.0 ∙ same in
    let shows : shown c.new-view.result ≡ state_of shape a.state.now =
    c.new-view.ensures.alone (c.new-nothing.ensures.empty signature c.count.ensures.sound c.count.ensures.count) ∙ ap (λ sh. state_of sh a.state.now) same in
    let root : c.new-2.result ≡ [] = c.new-2.ensures ∙ c.new.ensures.items in
    let script = g.P.Picks.script a.choices.now.script.now in
    let i = a.choices.now.step in
    let code = rule_of m.code.now in
    let alike = ap (λ xs. all_said a.asked.now.items ++ xs) ((λ j. asks (viewed j) m.turns (pick script i) code [] [] (shows j) (root j))
    ∙ ap asked (c.resolving_laws.ensures.tells s (main_rule s (inits s)) code m.turns script i (state_of shape a.state.now) [] c.requires.main)) in
    on_ok_weaker c.add_asked.result (λ is. is ∙ alike) c.add_asked.ensures
