use Rattle.std.proofs.Common.{◌≡◌, ◌∙◌, [], sym, ap, subst}
use Rattle.asm_state.specs.Signature.{Shape, state_of}
use Rattle.asm_syntax.specs.code.Views.{spec_of}
use Rattle.asm_check.specs.Faults.{inits}
use Rattle.asm_check.specs.Shapes.{shape_of}
use Rattle.asm_meaning.specs.Declarations.{main_rule, program_of, specification_of}
use Rattle.asm_meaning.specs.Does.{Outcome, does}
use Rattle.asm_meaning.specs.Program.{nothing_bound}
use Rattle.asm_eval.specs.code.ShownViews.{shown}
use Rattle.asm_code.specs.code.RuleMeaning.{IsSoundRule, meaning}
use Rattle.asm_code.specs.code.RuleViews.{rule_of}
use Rattle.asm_explore.specs.code.OutcomeLists.{picked, Lists}
use Rattle.asm_explore.specs.code.ChoicesMade.{made_in}
use Rattle.asm_explore.specs.code.ChoicePaths.{HaveOwnPaths, LieBelow}
use Rattle.asm_explore.specs.code.ReachedStates.{steps_from}
use Rattle.asm_explore.proofs.OutcomeLemmas.ListLemmas.{lists_same}
use Rattle.asm_explore.proofs.ChoiceLemmas.ChoicePaths.{have_weaker}
use Rattle.asm_explore.proofs.Specifications.{refused_listed}
use Rattle.asm_explore.proofs.specification.step_outcomes.Goals as goal

pub outcomes-requires-clause-sound : goal.outcomes-requires-clause-sound
outcomes-requires-clause-sound c =
    subst (λ sh. IsSoundRule sh (rule_of c.args.specified.now.code.now)) (sym (c.new-view.ensures.parts.0 ∙ c.signature-signature.ensures)) c.requires.sound.main.sound

pub returns : goal.returns
returns c =
    let a = c.args in
    let m = a.specified.now in
    let s = spec_of m.checked.now.spec in
    let shape = shape_of s in
    let signature = c.signature-signature.result.now in
    let same : signature ≡ shape = c.signature-signature.ensures in
    let viewed : c.new-view.result.signature.now ≡ shape = c.new-view.ensures.parts.0 ∙ same in
    let A = shown c.new-view.result in
    let R = main_rule s (inits s) in
    let shows : A ≡ state_of shape a.state.now =
    c.new-view.ensures.alone (c.new-nothing.ensures.empty signature c.count.ensures.sound c.count.ensures.count) ∙ ap (λ sh. state_of sh a.state.now) same in
    let steps = steps_from (specification_of s) m.turns (state_of shape a.state.now) in
    record {
      step = record {
        lists = subst (λ sh. Lists sh steps c.in_ok-found.found.items) viewed
            (lists_same _ _ steps c.in_ok-found.found.items
            (λ q.
            let o : Outcome = does (program_of s) m.turns q.script q.step A nothing_bound [] R in
            ap (λ (o : Outcome). o.result)
            (subst (λ (sh : Shape). meaning sh m.turns (picked q) (rule_of m.code.now) [] [] A [] ≡ o) (sym viewed)
            (c.resolving_laws.ensures.means s R (rule_of m.code.now) m.turns q.script q.step A [] c.requires.sound.main))
            ∙ ap (λ B. steps_from (specification_of s) m.turns B q) shows)
            c.in_ok-found.ensures.lists);
        apart = have_weaker (LieBelow []) HaveOwnPaths (λ cs placed. placed.apart) c.in_ok-found.found.items c.in_ok-found.ensures.placed;
      };
      refuses = tt;
    }

pub returns-in_err-found : goal.returns-in_err-found
returns-in_err-found c =
    let a = c.args in
    let m = a.specified.now in
    let s = spec_of m.checked.now.spec in
    let shape = shape_of s in
    let R = rule_of m.code.now in
    let signature = c.signature-signature.result.now in
    let same : signature ≡ shape = c.signature-signature.ensures in
    let viewed : c.new-view.result.signature.now ≡ shape = c.new-view.ensures.parts.0 ∙ same in
    let A = shown c.new-view.result in
    let shows : A ≡ state_of shape a.state.now =
    c.new-view.ensures.alone (c.new-nothing.ensures.empty signature c.count.ensures.sound c.count.ensures.count) ∙ ap (λ sh. state_of sh a.state.now) same in
    refused_listed shape (specification_of s) m.turns (made_in shape m.turns R) m.limit (state_of shape a.state.now)
    c.from_residual.result c.in_err-found.field-0.0 c.from_residual.ensures.1
    (made_in c.new-view.result.signature.now m.turns R A) (λ q i. made_in (viewed i) m.turns R (shows i) q) c.in_err-found.ensures.crowded
