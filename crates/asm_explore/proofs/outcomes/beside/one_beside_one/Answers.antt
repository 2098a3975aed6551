use Rattle.std.proofs.Common.{◌∙◌, ◌∷◌, [], ◌++◌, ap, sym, subst}
use Rattle.asm_explore.specs.code.OutcomeLists.{HaveChoices}
use Rattle.asm_explore.specs.code.ChoicePaths.{IsPlacedFrom}
use Rattle.asm_explore.proofs.ChoiceLemmas.ChoicePaths.{from_part}
use Rattle.asm_explore.proofs.outcomes.beside.one_beside_one.Goals as goal

pub returns-clause-placed : goal.returns-clause-placed
returns-clause-placed c = λ p k h g.
    let a = c.args in
    let one = c.in_ok-one.one in
    subst (HaveChoices (IsPlacedFrom p k)) (sym (c.in_ok-push.ensures.items ∙ ap (λ fs. fs ++ one ∷ []) c.requires.room))
    (subst (IsPlacedFrom p k) (sym c.in_ok-one.ensures.choices) (from_part p k a.left.choices a.right.choices h.0 g.0), tt)
