use Rattle.std.proofs.Common.{map, take}
use Rattle.asm_syntax.specs.code.Views.{item_of}
use Rattle.asm_check.specs.code.uses.UseViews.{AreUsesOf}
use Rattle.asm_check.proofs.uses.declaration_uses.uses_of_items.Given as goal

abbrev pub invariant-loop-item : goal.invariant-loop-item
invariant-loop-item l = AreUsesOf (map item_of (take l.item-index l.items)) l.uses.items
