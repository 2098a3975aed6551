use Rattle.std.proofs.Common.{◌+◌, map, take, subst, sym}
use Rattle.asm_syntax.specs.code.Views.{item_of}
use Rattle.asm_check.specs.code.uses.UseViews.{AreUsesOf}
use Rattle.asm_check.proofs.UseLemmas.UsesCollected.{one_more}
use Rattle.asm_check.proofs.uses.declaration_uses.uses_of_items.Goals as goal

pub loop-item-preserved : goal.loop-item-preserved
loop-item-preserved c =
    subst (AreUsesOf (map item_of (take (c.loop-item.item-index + 1) c.args.items.now))) (sym c.in_ok-push.ensures.items)
    (one_more c.args.items.now c.loop-item.uses.items c.loop-item.item-index c.item-item.result c.in_ok-of_item.of_item c.loop-item-test.true c.item-item.is
    c.loop-item.invariant c.in_ok-of_item.ensures)
