use Rattle.std.proofs.Common.{List, ◌+◌, ◌<◌, map, drop, length, sym, ap, ◌∙◌, arith}
use Rattle.std.specs.Prelude.{flat_map}
use Rattle.std.proofs.Math.ListN.{drop_of_length-le}
use Rattle.asm_syntax.specs.declared.spec.Item.{Item}
use Rattle.asm_syntax.specs.code.Views.{item_of, spec_of}
use Rattle.asm_check.specs.Errors.{found_of}
use Rattle.asm_check.specs.code.FaultLists.{entry_faults}
use Rattle.asm_check.specs.Faults.{table_of}
use Rattle.asm_check.specs.code.LeastFaults.{least_after}
use Rattle.asm_check.proofs.TableLemmas.BadEntries.{next_left, one_item, table_faults}
use Rattle.asm_check.proofs.tables.entry_faults.note_entries.Goals as goal

pub loop-item-preserved : goal.loop-item-preserved
loop-item-preserved c =
    let spec = spec_of c.args.spec.now in
    let items = c.deref-item-items.result.now in
    let i = c.loop-item.item-index in
    let x = c.item-item.result in
    let inside : i < length items = omega (arith, c.loop-item-test.true) in
    one_item spec (item_of x) (map item_of (drop (i + 1) items)) (found_of c.loop-item.least.found) _ (c.in_ok-note_item.ensures spec c.requires)
    ∙ (ap (λ xs. least_after (found_of c.loop-item.least.found) (table_faults spec (flat_map table_of xs))) (sym (next_left item_of items i x inside c.item-item.is)) ∙ c.loop-item.invariant)

pub returns : goal.returns
unfolding entry_faults
returns c =
    let spec = spec_of c.args.spec.now in
    let faults = λ (xs : List Item). table_faults spec (flat_map table_of (map item_of xs)) in
    sym (ap (λ xs. least_after (found_of c.loop-item.least.found) (faults xs)) (drop_of_length-le c.deref-item-items.result.now c.loop-item-test.false))
    ∙ (c.loop-item.invariant ∙ ap (λ xs. least_after (found_of c.args.least.now.found) (faults xs)) c.deref-item-items.ensures.value)
