use Rattle.std.proofs.Common.{◌≡◌, length, map, refl, sym, subst, ◌∙◌, arith}
use Rattle.std.specs.Prelude.{Some}
use Rattle.std.proofs.lemmas.Grind.{common_steps}
use Rattle.asm_state.specs.SignatureLimits.{Fits}
use Rattle.asm_syntax.specs.code.Views.{spec_of}
use Rattle.asm_check.proofs.NumberLemmas.ShapeFits.{signature_fits}
use Rattle.asm_check.specs.Shapes.{shape_of}
use Rattle.asm_meaning.specs.Declarations.{program_of}
use Rattle.asm_meaning.specs.code.MeantTrees.{meant_terms}
use Rattle.asm_code.specs.code.CodeTree as codes
use Rattle.asm_code.specs.code.CodeViews.{code_of, codes_of}
use Rattle.asm_code.specs.code.RuleViews.{target_code_of}
use Rattle.asm_code.specs.declared.rule_code.TargetCode.{TargetCode}
use Rattle.asm_code.specs.declared.rule_code.TargetCode.TheVariants as place
use Rattle.asm_resolve.specs.code.FunctionCodes.{IsLocated}
use Rattle.asm_resolve.specs.code.RuleScopes.{named_target_resolved}
use Rattle.asm_resolve.specs.code.Scopes.{names_of, slots_of}
use Rattle.asm_resolve.proofs.TargetLocations.{held_located}
use Rattle.asm_resolve.proofs.ResolvedLists.{if_ok, only_one, only_two, none_at_all}
use Rattle.asm_resolve.proofs.RuleResolving.{located_resolved}
use Rattle.asm_resolve.proofs.resolve_rule.resolve_located.Goals as goal

pub cell_target-requires-clause-fits : goal.cell_target-requires-clause-fits
cell_target-requires-clause-fits c = subst Fits (sym c.signature-signature.ensures) (signature_fits (spec_of c.args.checked.now.spec) c.args.checked.now.well_formed)

pub returns-then-is_empty-clause-resolved : goal.returns-then-is_empty-clause-resolved
returns-then-is_empty-clause-resolved c =
    let a = c.args in
    let spec = spec_of a.checked.now.spec in
    let none : length a.arguments.now ≡ 0 = grind (arith, common_steps, sym c.is_empty.ensures ∙ c.if-is_empty.true) in
    located_resolved spec a.checked.now.well_formed (slots_of a.scope.now) a.name.now.text a.f c.requires.free c.requires.stands (meant_terms a.arguments.now) codes.no_codes
    (none_at_all (program_of spec) (shape_of spec) (names_of a.scope.now) a.arguments.now none) (target_code_of c.cell_target.result)
    (subst (λ s. IsLocated s a.f codes.no_codes (target_code_of c.cell_target.result)) c.signature-signature.ensures c.cell_target.ensures)

pub row_target-requires-clause-fits : goal.row_target-requires-clause-fits
row_target-requires-clause-fits c = subst Fits (sym c.signature-signature.ensures) (signature_fits (spec_of c.args.checked.now.spec) c.args.checked.now.well_formed)

pub returns-then-arguments-eq1-clause-resolved : goal.returns-then-arguments-eq1-clause-resolved
returns-then-arguments-eq1-clause-resolved c =
    let a = c.args in
    let spec = spec_of a.checked.now.spec in
    let one = codes.code_then (code_of c.in_ok-argument.argument) codes.no_codes in
    let are = only_one (program_of spec) (shape_of spec) (names_of a.scope.now) a.arguments.now c.index-arguments-0.result c.in_ok-argument.argument c.if-arguments-eq1.true c.index-arguments-0.is c.in_ok-argument.ensures.resolved in
    if_ok c.row_target.result _ (λ (to : TargetCode). named_target_resolved a.checked.now a.scope.now a.name.now.text a.arguments.now (Some to))
    (λ to it. located_resolved spec a.checked.now.well_formed (slots_of a.scope.now) a.name.now.text a.f c.requires.free c.requires.stands (meant_terms a.arguments.now) one are (target_code_of to)
    (subst (λ s. IsLocated s a.f one (target_code_of to)) c.signature-signature.ensures it)) c.row_target.ensures

pub grid_target-requires-clause-fits : goal.grid_target-requires-clause-fits
grid_target-requires-clause-fits c = subst Fits (sym c.signature-signature.ensures) (signature_fits (spec_of c.args.checked.now.spec) c.args.checked.now.well_formed)

pub returns-then-arguments-eq2-clause-resolved : goal.returns-then-arguments-eq2-clause-resolved
returns-then-arguments-eq2-clause-resolved c =
    let a = c.args in
    let spec = spec_of a.checked.now.spec in
    let two = codes.code_then (code_of c.in_ok-row.row) (codes.code_then (code_of c.in_ok-column.column) codes.no_codes) in
    let are = only_two (program_of spec) (shape_of spec) (names_of a.scope.now) a.arguments.now c.index-arguments-0-then-arguments-eq2.result c.index-arguments-1.result c.in_ok-row.row c.in_ok-column.column c.if-arguments-eq2.true
    c.index-arguments-0-then-arguments-eq2.is c.index-arguments-1.is c.in_ok-row.ensures.resolved c.in_ok-column.ensures.resolved in
    if_ok c.grid_target.result _ (λ (to : TargetCode). named_target_resolved a.checked.now a.scope.now a.name.now.text a.arguments.now (Some to))
    (λ to it. located_resolved spec a.checked.now.well_formed (slots_of a.scope.now) a.name.now.text a.f c.requires.free c.requires.stands (meant_terms a.arguments.now) two are (target_code_of to)
    (subst (λ s. IsLocated s a.f two (target_code_of to)) c.signature-signature.ensures it)) c.grid_target.ensures

pub returns-clause-resolved : goal.returns-clause-resolved
returns-clause-resolved c =
    let a = c.args in
    let spec = spec_of a.checked.now.spec in
    let ts = c.in_ok-arguments.arguments in
    located_resolved spec a.checked.now.well_formed (slots_of a.scope.now) a.name.now.text a.f c.requires.free c.requires.stands (meant_terms a.arguments.now) (codes_of (map code_of ts.items)) c.in_ok-arguments.ensures.resolved
    (target_code_of (place.FunctionAt a.f ts)) (held_located (shape_of spec) a.f c.requires.kind ts ts.items refl)
