use Rattle.asm_eval.proofs.FromNothing.{from_nothing_laws-formed, from_nothing_laws-set, from_nothing_laws-stopped}
use Rattle.asm_eval.proofs.laws.from_nothing_laws.Goals as goal

pub returns-clause-formed : goal.returns-clause-formed
returns-clause-formed c at = from_nothing_laws-formed

pub returns-clause-set : goal.returns-clause-set
returns-clause-set c at = from_nothing_laws-set

pub returns-clause-stopped : goal.returns-clause-stopped
returns-clause-stopped c at = from_nothing_laws-stopped
