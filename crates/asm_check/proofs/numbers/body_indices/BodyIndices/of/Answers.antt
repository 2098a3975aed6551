use Rattle.std.proofs.Common.{◌≡◌, ap, ◌∙◌}
use Rattle.asm_syntax.specs.code.Views.{item_of}
use Rattle.asm_check.specs.code.numbers.NumberTables.{appended_if, is_rule_item, is_derived_item}
use Rattle.asm_check.proofs.NumberLemmas.BodyIndices.{bodies_step, rule_indexed, rule_kept, rule_left, derived_indexed, derived_kept, derived_left}
use Rattle.asm_check.proofs.numbers.body_indices.BodyIndices.of.Goals as goal
use Rattle.asm_check.proofs.numbers.body_indices.BodyIndices.of.Goals.{in-Rule+in_ok-push-in-Rule, in-Derived+in_ok-push-in-Derived, in_default}

pub loop-k-preserved : goal.loop-k-preserved
loop-k-preserved c =
    let k = c.loop-k.k in
    let it = c.index-items-k.result in
    let rules = c.loop-k.rules.items in
    let derived = c.loop-k.derived.items in
    let rules' = c.match-item.rules.items in
    let derived' = c.match-item.derived.items in
    let rules_are : rules' ≡ appended_if (is_rule_item (item_of it)) rules k = elim c.match-item.branch [
      | in-Rule+in_ok-push-in-Rule w ↦
          rule_indexed rules rules' k it w.in-Rule.name w.in-Rule.parameters w.in-Rule.body w.in-Rule.is (ap (λ v. v.items) w.rules-is ∙ w.in_ok-push-in-Rule.ensures.items)
      | in-Derived+in_ok-push-in-Derived w ↦
          rule_kept rules rules' k it w.in-Derived.name w.in-Derived.parameters w.in-Derived.body w.in-Derived.is (ap (λ v. v.items) w.rules-is)
      | in_default w ↦ rule_left rules rules' k it w.in_default.not-Rule (ap (λ v. v.items) w.rules-is)
    ] in
    let derived_are : derived' ≡ appended_if (is_derived_item (item_of it)) derived k = elim c.match-item.branch [
      | in-Rule+in_ok-push-in-Rule w ↦
          derived_kept derived derived' k it w.in-Rule.name w.in-Rule.parameters w.in-Rule.body w.in-Rule.is (ap (λ v. v.items) w.derived-is)
      | in-Derived+in_ok-push-in-Derived w ↦
          derived_indexed derived derived' k it w.in-Derived.name w.in-Derived.parameters w.in-Derived.body w.in-Derived.is (ap (λ v. v.items) w.derived-is ∙ w.in_ok-push-in-Derived.ensures.items)
      | in_default w ↦ derived_left derived derived' k it w.in_default.not-Derived (ap (λ v. v.items) w.derived-is)
    ] in
    bodies_step item_of c.args.items.now k it c.loop-k-test.true c.index-items-k.is rules derived rules' derived' c.loop-k.invariant rules_are derived_are
