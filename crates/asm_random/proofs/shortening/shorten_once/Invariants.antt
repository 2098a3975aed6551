use Rattle.asm_random.specs.code.ShorterRuns.{StaysWrong}
use Rattle.asm_random.proofs.shortening.shorten_once.Given as goal

abbrev pub invariant-loop-halvings : goal.invariant-loop-halvings
invariant-loop-halvings l = StaysWrong l.specified l.fn.run l.run

abbrev pub invariant-loop-done : goal.invariant-loop-done
invariant-loop-done l = StaysWrong l.specified l.fn.run l.run
