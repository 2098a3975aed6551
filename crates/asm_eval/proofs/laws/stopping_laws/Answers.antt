use Rattle.asm_eval.proofs.SequenceLaws.{stopping_laws-handed_on, stopping_laws-memory}
use Rattle.asm_eval.proofs.laws.stopping_laws.Goals as goal

pub returns-clause-handed_on : goal.returns-clause-handed_on
returns-clause-handed_on c at = stopping_laws-handed_on

pub returns-clause-memory : goal.returns-clause-memory
returns-clause-memory c at = stopping_laws-memory
