use Rattle.asm_meaning.proofs.BesideLemmas.GroupsBeside.{group_laws-counting_none, group_laws-more, group_laws-one, group_laws-none}
use Rattle.asm_meaning.proofs.laws.group_laws.Goals as goal

pub returns-clause-counting_none : goal.returns-clause-counting_none
returns-clause-counting_none c at = group_laws-counting_none

pub returns-clause-more : goal.returns-clause-more
returns-clause-more c at = group_laws-more

pub returns-clause-one : goal.returns-clause-one
returns-clause-one c at = group_laws-one

pub returns-clause-none : goal.returns-clause-none
returns-clause-none c at = group_laws-none
