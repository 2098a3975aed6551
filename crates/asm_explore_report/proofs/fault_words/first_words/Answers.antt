use Rattle.std.proofs.Common.{◌≡◌, subst}
use Rattle.asm_state.specs.Location.{State}
use Rattle.asm_state.specs.Signature.{Shape, initial_state, state_of}
use Rattle.asm_syntax.specs.code.Views.{spec_of}
use Rattle.asm_check.specs.Shapes.{shape_of}
use Rattle.asm_explore_texts.specs.code.CodedConditions.{terms_in}
use Rattle.asm_explore_texts.specs.Comments.{lines_of}
use Rattle.asm_explore_report.specs.FaultWords.{IsBroken}
use Rattle.asm_explore_report.proofs.fault_words.first_words.Goals as goal

pub returns : goal.returns
returns c links joined =
    let checked = c.args.subject.now.checked.now in
    let shape = shape_of (spec_of checked.spec) in
    let first = c.in_ok-first.first in
    let initial : state_of shape first ≡ initial_state shape = subst (λ (sh : Shape). state_of sh first ≡ initial_state sh) c.signature.ensures c.in_ok-first.ensures.initial in
    subst (λ (A : State). IsBroken (spec_of checked.spec) (terms_in links) A c.in_ok-told.told.words.items (lines_of c.in_ok-told.told.because.items)) initial (c.in_ok-told.ensures links joined)
