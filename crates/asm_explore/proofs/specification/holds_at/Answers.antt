use Rattle.std.proofs.Common.{◌≡◌, ◌∙◌, [], refl, sym, subst}
use Rattle.std.specs.Prelude.{option_map}
use Rattle.asm_state.specs.Signature.{state_of}
use Rattle.asm_eval.specs.code.ShownViews.{shown}
use Rattle.asm_code.specs.code.CodeViews.{code_of}
use Rattle.asm_code.specs.code.RuleMeaning.{IsSoundTest, passes}
use Rattle.asm_explore.proofs.specification.holds_at.Goals as goal

pub passes-requires-clause-sound : goal.passes-requires-clause-sound
passes-requires-clause-sound c = subst (λ sh. IsSoundTest sh (option_map code_of c.args.test.now)) (sym c.new-view.ensures.parts.0) c.requires.sound

pub returns : goal.returns
returns c =
    let a = c.args in
    let signature = a.signature.now in
    let shows : shown c.new-view.result ≡ state_of signature a.state.now =
    c.new-view.ensures.alone (c.new-nothing.ensures.empty signature c.count.ensures.sound c.count.ensures.count) in
    c.passes.ensures ∙ (λ i. passes (c.new-view.ensures.parts.0 i) (option_map code_of a.test.now) [] (shows i))
