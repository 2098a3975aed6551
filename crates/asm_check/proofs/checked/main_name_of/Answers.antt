use Rattle.asm_check.proofs.CheckedCalls.{one_init, some_init, no_init_more}
use Rattle.asm_check.proofs.checked.main_name_of.Goals as goal

pub returns-in-Init : goal.returns-in-Init
returns-in-Init c =
    one_init c.args.spec.now c.requires c.deref-item-items.result.now c.deref-item-items.ensures.value c.loop-item.item-index c.item-item.result c.in-Init.name
    c.loop-item-test.true c.item-item.is c.in-Init.is c.loop-item.invariant

pub loop-item-preserved : goal.loop-item-preserved
loop-item-preserved c = no_init_more c.deref-item-items.result.now c.loop-item.item-index c.item-item.result c.loop-item-test.true c.item-item.is c.in_default.not-Init c.loop-item.invariant

pub unreachable-requires : goal.unreachable-requires
unreachable-requires c = some_init c.args.spec.now c.requires c.deref-item-items.result.now c.deref-item-items.ensures.value c.loop-item.item-index c.loop-item-test.false c.loop-item.invariant
