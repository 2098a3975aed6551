use Rattle.asm_random.specs.code.ShorterRuns.{StaysWrong}
use Rattle.asm_random.proofs.shortening.try_lines.Given as goal

abbrev pub invariant-loop-done : goal.invariant-loop-done
invariant-loop-done l = StaysWrong l.specified l.fn.run l.run
