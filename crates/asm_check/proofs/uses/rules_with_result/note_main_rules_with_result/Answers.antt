use Rattle.std.proofs.Common.{length, get_or, subst, ap, sym, ◌∙◌}
use Rattle.std.proofs.lemmas.List.{at_drop_all}
use Rattle.std.proofs.lemmas.List.Folds.{flat_map-map}
use Rattle.std.specs.Prelude.{flat_map, ◌≡◌, ◌<◌, ◌≤◌}
use Rattle.asm_syntax.specs.code.Views.{spec_of, item_of}
use Rattle.asm_check.specs.Errors.{found_of}
use Rattle.asm_check.specs.code.FaultLists.{main_rule_with_result, main_rules_with_result}
use Rattle.asm_check.specs.code.LeastFaults.{least_after}
use Rattle.asm_check.proofs.UseLemmas.UseFaults.{one_step}
use Rattle.asm_check.proofs.uses.rules_with_result.note_main_rules_with_result.Goals as goal

pub loop-item-preserved : goal.loop-item-preserved
loop-item-preserved c =
    let items = c.args.spec.now.items.items in
    let i = c.loop-item.item-index in
    let spec = spec_of c.args.spec.now in
    let before = found_of c.loop-item.least.found in
    let below : i < length items = subst (λ xs. i < length xs) c.deref-item-items.ensures.value c.loop-item-test.true in
    let same : c.item-item.result ≡ _ = c.item-item.is ∙ ap (λ xs. get_or xs i c.item-item.result) c.deref-item-items.ensures.value in
    one_step (λ x. main_rule_with_result spec (item_of x)) _ before _ items i c.item-item.result below c.loop-item.invariant
    (c.note_main_rule_with_result.ensures spec c.requires.table ∙ ap (λ x. least_after before (main_rule_with_result spec (item_of x))) same)

pub returns : goal.returns
unfolding main_rules_with_result
returns c =
    let items = c.args.spec.now.items.items in
    let spec = spec_of c.args.spec.now in
    let past : length items ≤ c.loop-item.item-index = subst (λ xs. length xs ≤ c.loop-item.item-index) c.deref-item-items.ensures.value c.loop-item-test.false in
    sym (at_drop_all (λ xs. least_after (found_of c.loop-item.least.found) (flat_map (λ x. main_rule_with_result spec (item_of x)) xs)) items c.loop-item.item-index past)
    ∙ c.loop-item.invariant
    ∙ ap (least_after (found_of c.args.least.now.found)) (sym (flat_map-map (main_rule_with_result spec) item_of items))
