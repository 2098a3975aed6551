use Rattle.std.proofs.Common.{◌≡◌, ◌<◌, Some, None, sym, ap, subst, ◌∙◌, refl, rules}
use Rattle.asm_state.specs.Signature.{functions_of, domain_of}
use Rattle.asm_syntax.specs.code.Views.{spec_of}
use Rattle.asm_check.specs.Shapes.{shape_of}
use Rattle.asm_meaning.specs.Declarations.{program_of}
use Rattle.asm_meaning.specs.Program as declared
use Rattle.asm_meaning.proofs.NumberedValues.{numbered_names-function as function_below}
use Rattle.asm_meaning.specs.Declarations.{function_number}
use Rattle.asm_meaning.proofs.Targets.{target_names-controlled as is_controlled, target_names-of_static as static_names_none, target_names-other as other_names_none}
use Rattle.asm_resolve.proofs.resolve_rule.controlled.Goals as goal

pub function-requires : goal.function-requires
function-requires c =
    let spec = spec_of c.args.checked.now.spec in
    subst (λ s. c.in-Some-Function.f < functions_of s) (sym c.signature.ensures)
    (function_below spec (shape_of spec) c.named_text.result c.in-Some-Function.f c.args.checked.now.well_formed refl c.named_text.ensures.in_range (c.in-Some-Function.is ∙ ap Some c.in-Some-Function.field-0-is))

pub returns-in-Controlled-clause-some : goal.returns-in-Controlled-clause-some
returns-in-Controlled-clause-some c =
    let spec = spec_of c.args.checked.now.spec in
    subst (λ s. declared.declared (program_of spec) c.args.name.now.text ≡ Some (declared.Controlled c.in-Some-Function.f (domain_of s c.in-Some-Function.f))) c.signature.ensures
    (is_controlled spec c.args.name.now.text c.signature.result.now c.signature.ensures c.in-Some-Function.f c.function.result.now
    (sym (c.in-Some-Function.is ∙ ap Some c.in-Some-Function.field-0-is) ∙ c.named_text.ensures.named) c.function.ensures c.in-Controlled.is)

pub returns-in-Static-clause-none : goal.returns-in-Static-clause-none
returns-in-Static-clause-none c =
    static_names_none (spec_of c.args.checked.now.spec) c.args.name.now.text c.signature.result.now c.signature.ensures
    c.in-Some-Function.f c.function.result.now (sym (c.in-Some-Function.is ∙ ap Some c.in-Some-Function.field-0-is) ∙ c.named_text.ensures.named) c.function.ensures c.in-Static.is

pub returns-in_default : goal.returns-in_default
returns-in_default c =
    let other : function_number c.named_text.result ≡ None = search rules in
    record { kind = tt; some = tt; none = other_names_none (spec_of c.args.checked.now.spec) c.args.name.now.text c.named_text.result c.named_text.ensures.named other }

pub returns-in_default-2-clause-none : goal.returns-in_default-2-clause-none
returns-in_default-2-clause-none c =
    other_names_none (spec_of c.args.checked.now.spec) c.args.name.now.text c.named_text.result c.named_text.ensures.named (ap function_number c.in_default.is)
