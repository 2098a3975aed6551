use Rattle.asm_meaning.proofs.MeantDeclarations.{universe_names-some, universe_names-none, universe_names-in_range}
use Rattle.asm_meaning.proofs.laws.universe_names.Goals as goal

pub returns-clause-some : goal.returns-clause-some
returns-clause-some c = universe_names-some

pub returns-clause-none : goal.returns-clause-none
returns-clause-none c = universe_names-none

pub returns-clause-in_range : goal.returns-clause-in_range
returns-clause-in_range c = universe_names-in_range
