use Rattle.asm_random.specs.code.ShorterRuns.{StaysWrong}
use Rattle.asm_random.proofs.shortening.try_steps.Given as goal

abbrev pub invariant-loop-block : goal.invariant-loop-block
invariant-loop-block l = StaysWrong l.specified l.fn.run l.run
