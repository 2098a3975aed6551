use Rattle.asm_meaning.proofs.Intervals.{interval_laws-all, interval_laws-next, interval_laws-none, interval_laws-cut}
use Rattle.asm_meaning.proofs.laws.interval_laws.Goals as goal

pub returns-clause-all : goal.returns-clause-all
returns-clause-all c = interval_laws-all

pub returns-clause-next : goal.returns-clause-next
returns-clause-next c = interval_laws-next

pub returns-clause-none : goal.returns-clause-none
returns-clause-none c = interval_laws-none

pub returns-clause-cut : goal.returns-clause-cut
returns-clause-cut c = interval_laws-cut
