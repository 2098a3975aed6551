use Rattle.std.proofs.Common.{◌≡◌, ◌∙◌, ap}
use Rattle.asm_state.specs.Signature.{state_of}
use Rattle.asm_syntax.specs.PlainTree.{plain_term}
use Rattle.asm_syntax.specs.code.Views.{spec_of, term_of}
use Rattle.asm_check.specs.Shapes.{shape_of}
use Rattle.asm_meaning.specs.Program.{nothing_bound}
use Rattle.asm_meaning.specs.Value.{value}
use Rattle.asm_meaning.specs.code.TermValues.{program}
use Rattle.asm_eval.specs.code.ShownViews.{shown}
use Rattle.asm_explore_report.proofs.broken_condition.value_of.Goals as goal

pub returns : goal.returns
returns c =
    let a = c.args in
    let checked = a.checked.now in
    let shape = shape_of (spec_of checked.spec) in
    let signature = c.signature-signature.result.now in
    let same : signature ≡ shape = c.signature-signature.ensures in
    let shows : shown c.new-view.result ≡ state_of shape a.state.now =
    c.new-view.ensures.alone (c.new-nothing.ensures.empty signature c.count.ensures.sound c.count.ensures.count) ∙ ap (λ sh. state_of sh a.state.now) same in
    c.in_ok-value.ensures ∙ ap (λ A. value (program checked) A nothing_bound (plain_term (term_of a.term.now))) shows
