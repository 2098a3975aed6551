use Rattle.asm_pool.proofs.Slots.{free-more}
use Rattle.asm_pool.proofs.gather.Slots.new.Goals as goal

pub loop-i-preserved : goal.loop-i-preserved
loop-i-preserved g c = free-more c.loop-i._i c.loop-i.outs.items _ c.loop-i.invariant c.in_ok-push.ensures.items
