use Rattle.std.proofs.Common.{◌≡◌, ◌∙◌, ◌<◌, ap, sym, subst, [], Some, length, arith}
use Rattle.std.specs.Prelude.{slice_index_or}
use Rattle.std.proofs.lemmas.Option.{get_or_from_slice_get}
use Rattle.std.proofs.lemmas.List.{get_or_past}
use Rattle.asm_state.specs.Signature.{Shape}
use Rattle.asm_state.specs.declared.value.Value.TheVariants.{Undef}
use Rattle.asm_syntax.specs.code.Views.{spec_of, name_of}
use Rattle.asm_check.specs.Numbers.{universes_of}
use Rattle.asm_check.specs.Shapes.{shape_of}
use Rattle.asm_check.specs.code.numbers.NumberTables.{IsInRange}
use Rattle.asm_check.specs.declared.checked.NameNumber.{NameNumber}
use Rattle.asm_explore_texts.specs.Places.{element_of, value_numbered}
use Rattle.asm_explore_texts.proofs.rule_in_text.element_at.Goals as goal

pub universe-values-requires : goal.universe-values-requires
universe-values-requires c =
    let s = spec_of c.args.checked.now.spec in
    let numbers = c.signature_numbers.ensures s c.args.checked.now.well_formed in
    let within : c.in-Some-Universe.number < length (universes_of s) = subst (λ (it : NameNumber). IsInRange s (Some it)) c.in-Some-Universe.field-0-is c.in-Some-Universe.ensures.in_range in
    subst (λ (sh : Shape). c.in-Some-Universe.number < length sh.universes) (sym c.signature.ensures) (omega (arith, within, numbers.count_of_universes))

pub returns-then-position-size : goal.returns-then-position-size
returns-then-position-size c =
    let s = spec_of c.args.checked.now.spec in
    let k = c.args.position in
    let n = c.in-Some-Universe.number in
    let values : slice_index_or (shape_of s).universes n [] ≡ c.universe-values.result.now =
    ap (λ (sh : Shape). slice_index_or sh.universes n []) (sym c.signature.ensures) ∙ get_or_from_slice_get c.signature.result.now.universes n c.universe-values.result.now [] c.universe-values.ensures in
    let found : slice_index_or c.universe-values.result.now k Undef ≡ c.element.result = get_or_from_slice_get c.universe-values.result.now k c.element.result Undef c.element.ensures in
    let is : element_of s (name_of c.args.universe.now) k ≡ slice_index_or (slice_index_or (shape_of s).universes n []) k Undef = ap (λ it. value_numbered s it k) (sym c.in-Some-Universe.ensures.named) ∙ ap (λ (it : NameNumber). value_numbered s (Some it) k) c.in-Some-Universe.field-0-is in
    sym (is ∙ ap (λ vs. slice_index_or vs k Undef) values ∙ found)

pub returns-else-position-size : goal.returns-else-position-size
returns-else-position-size c =
    let s = spec_of c.args.checked.now.spec in
    let k = c.args.position in
    let n = c.in-Some-Universe.number in
    let values : slice_index_or (shape_of s).universes n [] ≡ c.universe-values.result.now =
    ap (λ (sh : Shape). slice_index_or sh.universes n []) (sym c.signature.ensures) ∙ get_or_from_slice_get c.signature.result.now.universes n c.universe-values.result.now [] c.universe-values.ensures in
    let past : slice_index_or c.universe-values.result.now k Undef ≡ Undef = get_or_past c.universe-values.result.now k Undef (omega (arith, c.if-position-size.false, c.size.ensures.size)) in
    let is : element_of s (name_of c.args.universe.now) k ≡ slice_index_or (slice_index_or (shape_of s).universes n []) k Undef = ap (λ it. value_numbered s it k) (sym c.in-Some-Universe.ensures.named) ∙ ap (λ (it : NameNumber). value_numbered s (Some it) k) c.in-Some-Universe.field-0-is in
    c.undef-else-position-size.ensures ∙ sym (is ∙ ap (λ vs. slice_index_or vs k Undef) values ∙ past)
