use Rattle.std.proofs.Common.{refl, subst}
use Rattle.std.specs.Prelude.{option_map}
use Rattle.asm_syntax.specs.code.Views.{spec_of}
use Rattle.asm_check.specs.Shapes.{shape_of}
use Rattle.asm_meaning.specs.Declarations.{program_of}
use Rattle.asm_meaning.specs.code.MeantTrees.{meant_term, meant_terms}
use Rattle.asm_code.specs.code.CodeViews.{code_of}
use Rattle.asm_code.specs.code.RuleViews.{target_code_of}
use Rattle.asm_code.specs.declared.rule_code.RuleCode.TheVariants as code
use Rattle.asm_code.proofs.RuleForms.{rule_laws-assign_form as assign_form, rule_laws-skip_form as skip_form}
use Rattle.asm_resolve.specs.code.ResolvedRules.{IsResolvedTarget}
use Rattle.asm_resolve.specs.code.Scopes.{slots_of}
use Rattle.asm_resolve.proofs.RuleResolving.{as_resolved_rule, assign_resolved, assign_nowhere}
use Rattle.asm_resolve.proofs.resolve_rule.resolve_assign.Goals as goal

pub returns-in-None-clause-resolved : goal.returns-in-None-clause-resolved
returns-in-None-clause-resolved c =
    let a = c.args in
    let spec = spec_of a.checked.now.spec in
    let place = subst (λ o. IsResolvedTarget (program_of spec) (shape_of spec) (slots_of a.scope.now) a.name.now.text (meant_terms a.arguments.now) (option_map target_code_of o)) c.in-None.is c.in_ok-resolve_named_target.ensures.resolved in
    as_resolved_rule (program_of spec) (shape_of spec) (slots_of a.scope.now) _ _ _ _ refl (skip_form code.Skip refl)
    (assign_nowhere spec a.checked.now.well_formed (slots_of a.scope.now) a.name.now.text (meant_terms a.arguments.now) place (meant_term a.value.now))

pub returns-in_ok-value-in-Some-clause-resolved : goal.returns-in_ok-value-in-Some-clause-resolved
returns-in_ok-value-in-Some-clause-resolved c =
    let a = c.args in
    let spec = spec_of a.checked.now.spec in
    let to = c.in-Some.place in
    let t = c.in_ok-value-in-Some.value in
    let place = subst (λ o. IsResolvedTarget (program_of spec) (shape_of spec) (slots_of a.scope.now) a.name.now.text (meant_terms a.arguments.now) (option_map target_code_of o)) c.in-Some.is c.in_ok-resolve_named_target.ensures.resolved in
    as_resolved_rule (program_of spec) (shape_of spec) (slots_of a.scope.now) _ _ _ _ refl (assign_form (code.Assign to t) to t refl)
    (assign_resolved spec a.checked.now.well_formed (slots_of a.scope.now) a.name.now.text (meant_terms a.arguments.now) (target_code_of to) place (meant_term a.value.now) (code_of t) c.in_ok-value-in-Some.ensures.resolved)
