use Rattle.std.proofs.Common.{◌∙◌, ◌∷◌, ◌++◌, [], ap}
use Rattle.asm_explore_texts.specs.code.TextPlaces.{elements_said}
use Rattle.asm_explore_texts.proofs.RuleNumbers.{one_more}
use Rattle.asm_explore_texts.proofs.rule_in_text.PlaceInText.element.Goals as goal

pub returns-clause-elements : goal.returns-clause-elements
returns-clause-elements c =
    let old = c.args.self.now in
    let xs = old.variables.items in
    let vs = old.elements.items in
    let x = c.args.name in
    let v = c.element_at-value.result in
    let variables = ap (λ it. it.items) c.in_ok-part.ensures.variables ∙ c.in_ok-push.ensures.items in
    let elements = ap (λ it. it.items) c.in_ok-part.ensures.elements ∙ c.in_ok-push-2.ensures.items in
    (λ j. elements_said (variables j) (elements j)) ∙ one_more xs vs x v c.requires ∙ ap (λ w. elements_said xs vs ++ (x.now.text, w) ∷ []) c.element_at-value.ensures
