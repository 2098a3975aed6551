use Rattle.std.proofs.Common.{sym}
use Rattle.asm_random.proofs.deadlock.is_deadlock.Goals as goal

pub returns-in-Ok-clause-so : goal.returns-in-Ok-clause-so
returns-in-Ok-clause-so c = λ so. (c.in-Ok.ensures.quiet.0 so, sym c.if-may_rest.ensures)
