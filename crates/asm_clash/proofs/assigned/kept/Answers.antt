use Rattle.std.proofs.Common.{◌∙◌, ◌++◌, ◌∷◌, [], ap}
use Rattle.asm_code.specs.code.CodeViews.{code_of}
use Rattle.asm_code.specs.code.RuleViews.{target_code_of}
use Rattle.asm_clash.specs.Standing.{all_assigned}
use Rattle.asm_clash.specs.code.StandingRules.{detail_at}
use Rattle.asm_clash.proofs.Founds.{none_kept, one_kept}
use Rattle.asm_clash.proofs.assigned.kept.Goals as goal

pub returns-then-sought-gt0 : goal.returns-then-sought-gt0
returns-then-sought-gt0 c =
    let a = c.args in
    let d = detail_at a.view.now a.frame.now a.sought.now.given.now (target_code_of a.place.now) (code_of a.term.now) a.path.now in
    ap all_assigned (c.in_ok-push.ensures.items ∙ ap (λ xs. xs ++ c.in_ok-assignment.assignment ∷ []) c.new-first.ensures.items)
    ∙ ap (λ e. e ∷ []) c.in_ok-assignment.ensures ∙ one_kept a.sought.now.most d c.if-sought-gt0.true

pub returns : goal.returns
returns c =
    let a = c.args in
    let d = detail_at a.view.now a.frame.now a.sought.now.given.now (target_code_of a.place.now) (code_of a.term.now) a.path.now in
    ap all_assigned c.new-first.ensures.items ∙ none_kept a.sought.now.most d c.if-sought-gt0.false
