use Rattle.std.proofs.Common.{map, arith, ap, ◌∙◌}
use Rattle.asm_syntax.specs.code.Views.{item_of}
use Rattle.asm_check.specs.Names.{declarations_from}
use Rattle.asm_check.specs.code.uses.UseViews.{use_of}
use Rattle.asm_check.proofs.NameLemmas.DeclarationsGathered.{gathers_step, items_one}
use Rattle.asm_check.proofs.UseLemmas.UsesCollected.{collected_at}
use Rattle.asm_check.proofs.names.first_names.declare_items.Goals as goal

pub loop-k-preserved : goal.loop-k-preserved
loop-k-preserved c =
    gathers_step (λ xs. declarations_from 0 (map item_of xs)) _ c.args.items.now c.loop-k.k c.index-items-k.result _ _ _ _ _ _ (omega arith)
    c.index-items-k.is (items_one item_of c.args.items.now c.loop-k.k _ (omega arith)) c.loop-k.invariant c.in_ok-declare_item.ensures

pub declare_item-requires : goal.declare_item-requires
declare_item-requires c =
    ap (map use_of) c.deref.ensures.value
    ∙ collected_at c.args.items.now c.args.uses.now c.requires c.loop-k.k c.index-items-k.result c.index-uses-k.result c.loop-k-test.true c.index-items-k.is c.index-uses-k.is
