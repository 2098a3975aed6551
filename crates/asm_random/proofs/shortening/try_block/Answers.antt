use Rattle.asm_random.proofs.Shortened.{stays_on}
use Rattle.asm_random.proofs.shortening.try_block.Goals as goal

pub returns : goal.returns
returns c =
    stays_on c.args.specified.now c.args.run.now c.try_without.new.run c.try_without-2.new.run c.in_ok-try_without.ensures c.in_ok-try_without-2.ensures
