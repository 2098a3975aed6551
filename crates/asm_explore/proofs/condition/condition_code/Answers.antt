use Rattle.std.proofs.Common.{[], Some, None, refl, sym, ap, subst}
use Rattle.asm_meaning.specs.Program.{nothing_bound}
use Rattle.asm_meaning.specs.Value.{is_true}
use Rattle.asm_meaning.specs.code.TermValues.{program}
use Rattle.asm_explore.specs.code.ResolvedConditions.{IsCondition}
use Rattle.asm_explore.proofs.Specifications.{agrees_nothing}
use Rattle.asm_explore.proofs.condition.condition_code.Goals as goal

pub returns-in_default : goal.returns-in_default
returns-in_default c = subst (λ t. IsCondition c.args.checked.now t None) (sym c.in_default.is) (record { sound = tt; means = λ A. refl })

pub returns : goal.returns
returns c =
    let checked = c.args.checked.now in
    let resolved = c.in_ok-code.ensures.resolved in
    subst (λ t. IsCondition checked t (Some c.in_ok-code.code)) (sym c.in-Some.is)
    (record { sound = resolved.sound; means = λ A. ap is_true (resolved.means nothing_bound [] A (agrees_nothing (program checked) [])) })
