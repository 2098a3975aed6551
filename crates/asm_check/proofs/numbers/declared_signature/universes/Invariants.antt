use Rattle.std.proofs.Common.{◌≡◌, ◌+◌, ◌++◌, map, drop}
use Rattle.asm_syntax.specs.code.Views.{item_of}
use Rattle.asm_check.specs.code.numbers.ItemLists.{universe_lists, elements_in}
use Rattle.asm_check.proofs.numbers.declared_signature.universes.Given as goal

abbrev pub invariant-loop-item : goal.invariant-loop-item
invariant-loop-item l = record {
  built : l.universes.items ++ universe_lists l.count (map item_of (drop l.item-index l.spec.items.items)) ≡ universe_lists 0 (map item_of l.spec.items.items);
  counted : l.count + elements_in (map item_of (drop l.item-index l.spec.items.items)) ≡ elements_in (map item_of l.spec.items.items);
}
