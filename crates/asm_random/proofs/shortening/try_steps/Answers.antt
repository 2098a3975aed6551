use Rattle.asm_random.proofs.Shortened.{stays_on, stays_same}
use Rattle.asm_random.proofs.shortening.try_steps.Goals as goal

pub loop-block-init : goal.loop-block-init
loop-block-init c = stays_same c.args.specified.now c.args.run.now

pub loop-block-preserved : goal.loop-block-preserved
loop-block-preserved c =
    stays_on c.args.specified.now c.args.run.now c.loop-block.run c.try_block.new.run c.loop-block.invariant c.in_ok-try_block.ensures
