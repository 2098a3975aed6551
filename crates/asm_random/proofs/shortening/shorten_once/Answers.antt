use Rattle.asm_random.proofs.Shortened.{stays_on, stays_same}
use Rattle.asm_random.proofs.shortening.shorten_once.Goals as goal

pub loop-halvings-init : goal.loop-halvings-init
loop-halvings-init c = stays_same c.args.specified.now c.args.run.now

pub loop-halvings-preserved : goal.loop-halvings-preserved
loop-halvings-preserved c =
    stays_on c.args.specified.now c.args.run.now c.loop-halvings.run c.try_steps.new.run c.loop-halvings.invariant c.in_ok-try_steps.ensures

pub loop-done-preserved : goal.loop-done-preserved
loop-done-preserved c =
    stays_on c.args.specified.now c.args.run.now c.loop-done.run c.try_lines.new.run c.loop-done.invariant c.in_ok-try_lines.ensures
