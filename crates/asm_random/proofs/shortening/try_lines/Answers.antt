use Rattle.asm_random.proofs.Shortened.{stays_on, stays_same}
use Rattle.asm_random.proofs.shortening.try_lines.Goals as goal

pub loop-done-init : goal.loop-done-init
loop-done-init c = stays_same c.args.specified.now c.args.run.now

pub loop-done-preserved : goal.loop-done-preserved
loop-done-preserved c =
    stays_on c.args.specified.now c.args.run.now c.loop-done.run c.try_without.new.run c.loop-done.invariant c.in_ok-try_without.ensures
