use Rattle.asm_random.specs.code.ShorterRuns.{StaysWrong}
use Rattle.asm_random.proofs.shortening.shorten.Given as goal

abbrev pub invariant-loop-round : goal.invariant-loop-round
invariant-loop-round l = StaysWrong l.specified l.fn.run l.run
