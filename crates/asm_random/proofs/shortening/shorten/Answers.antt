use Rattle.asm_random.proofs.Shortened.{stays_on, stays_same}
use Rattle.asm_random.proofs.shortening.shorten.Goals as goal

pub loop-round-init : goal.loop-round-init
loop-round-init c = stays_same c.args.specified.now c.args.run.now

pub loop-round-preserved : goal.loop-round-preserved
loop-round-preserved c =
    stays_on c.args.specified.now c.args.run.now c.loop-round.run c.shorten_once.new.run c.loop-round.invariant c.in_ok-shorten_once.ensures

pub returns-then-left-eq0 : goal.returns-then-left-eq0
returns-then-left-eq0 c =
    stays_on c.args.specified.now c.args.run.now c.loop-round.run c.shorten_once.new.run c.loop-round.invariant c.in_ok-shorten_once.ensures

pub returns-then-eq : goal.returns-then-eq
returns-then-eq c =
    stays_on c.args.specified.now c.args.run.now c.loop-round.run c.shorten_once.new.run c.loop-round.invariant c.in_ok-shorten_once.ensures
