use Rattle.std.proofs.Common.{map, ap, sym, ◌∙◌, arith, Some}
use Rattle.asm_syntax.specs.code.Views.{spec_of, name_of, rule_of}
use Rattle.asm_syntax.specs.declared.spec.Item.TheVariants as variant
use Rattle.asm_check.specs.Names as names
use Rattle.asm_check.specs.Numbers.{rules_of}
use Rattle.asm_check.specs.code.numbers.NumberTables.{is_rule_item}
use Rattle.asm_check.proofs.NumberLemmas.BodyIndices.{rules_counted, other_than_rule}
use Rattle.asm_check.proofs.CheckedCalls.{rule_read, body_inside, body_means, body_passes}
use Rattle.asm_check.proofs.checked.Checked.rule.Goals as goal

pub index-requires : goal.index-requires
index-requires c =
    let self = c.args.self.now in
    omega (arith, c.requires, rules_counted (spec_of self.spec) self.well_formed self.bodies self.indexed, self.bodies.rules.ok.0)

pub index-requires-2 : goal.index-requires-2
index-requires-2 c =
    let self = c.args.self.now in
    let body = rule_read self.spec self.well_formed self.bodies self.indexed c.args.r c.index.result.now c.requires c.index.ensures in
    let low = body_inside self.spec is_rule_item (rules_of (spec_of self.spec)) c.args.r c.index.result.now body in
    omega (arith, low, self.spec.items.ok.0)

pub unreachable-requires : goal.unreachable-requires
unreachable-requires c =
    let self = c.args.self.now in
    let body = rule_read self.spec self.well_formed self.bodies self.indexed c.args.r c.index.result.now c.requires c.index.ensures in
    let it = c.index-2.result.now in
    body_passes self.spec is_rule_item (rules_of (spec_of self.spec)) c.args.r c.index.result.now body it c.index-2.ensures (other_than_rule it c.in_default.not-Rule)

pub returns : goal.returns
returns c =
    let self = c.args.self.now in
    let body = rule_read self.spec self.well_formed self.bodies self.indexed c.args.r c.index.result.now c.requires c.index.ensures in
    let it = c.index-2.result.now in
    body_means self.spec is_rule_item (rules_of (spec_of self.spec)) c.args.r c.index.result.now body it c.index-2.ensures
    (variant.Rule c.in-Rule.name c.in-Rule.parameters c.in-Rule.body) c.in-Rule.is
    ∙ ap (λ xs. Some (names.NamedRule (map name_of xs) (rule_of c.in-Rule.body))) (sym c.deref.ensures.value)
