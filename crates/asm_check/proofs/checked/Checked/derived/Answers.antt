use Rattle.std.proofs.Common.{map, ap, sym, ◌∙◌, arith, Some}
use Rattle.asm_syntax.specs.code.Views.{spec_of, name_of, term_of}
use Rattle.asm_syntax.specs.declared.spec.Item.TheVariants as variant
use Rattle.asm_check.specs.Names as names
use Rattle.asm_check.specs.Numbers.{derived_of}
use Rattle.asm_check.specs.code.numbers.NumberTables.{is_derived_item}
use Rattle.asm_check.proofs.NumberLemmas.BodyIndices.{derived_counted, other_than_derived}
use Rattle.asm_check.proofs.CheckedCalls.{derived_read, body_inside, body_means, body_passes}
use Rattle.asm_check.proofs.checked.Checked.derived.Goals as goal

pub index-requires : goal.index-requires
index-requires c =
    let self = c.args.self.now in
    omega (arith, c.requires, derived_counted (spec_of self.spec) self.well_formed self.bodies self.indexed, self.bodies.derived.ok.0)

pub index-requires-2 : goal.index-requires-2
index-requires-2 c =
    let self = c.args.self.now in
    let body = derived_read self.spec self.well_formed self.bodies self.indexed c.args.d c.index.result.now c.requires c.index.ensures in
    let low = body_inside self.spec is_derived_item (derived_of (spec_of self.spec)) c.args.d c.index.result.now body in
    omega (arith, low, self.spec.items.ok.0)

pub unreachable-requires : goal.unreachable-requires
unreachable-requires c =
    let self = c.args.self.now in
    let body = derived_read self.spec self.well_formed self.bodies self.indexed c.args.d c.index.result.now c.requires c.index.ensures in
    let it = c.index-2.result.now in
    body_passes self.spec is_derived_item (derived_of (spec_of self.spec)) c.args.d c.index.result.now body it c.index-2.ensures (other_than_derived it c.in_default.not-Derived)

pub returns : goal.returns
returns c =
    let self = c.args.self.now in
    let body = derived_read self.spec self.well_formed self.bodies self.indexed c.args.d c.index.result.now c.requires c.index.ensures in
    let it = c.index-2.result.now in
    body_means self.spec is_derived_item (derived_of (spec_of self.spec)) c.args.d c.index.result.now body it c.index-2.ensures
    (variant.Derived c.in-Derived.name c.in-Derived.parameters c.in-Derived.body) c.in-Derived.is
    ∙ ap (λ xs. Some (names.Derived (map name_of xs) (term_of c.in-Derived.body))) (sym c.deref.ensures.value)
