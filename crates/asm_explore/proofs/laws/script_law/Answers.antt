use Rattle.asm_explore.proofs.ScriptLemmas.ScriptToState.{lines_apart, lines_make, needed_make}
use Rattle.asm_explore.proofs.laws.script_law.Goals as goal

pub returns-clause-apart : goal.returns-clause-apart
returns-clause-apart c = lines_apart

pub returns-clause-makes : goal.returns-clause-makes
returns-clause-makes c = lines_make

pub returns-clause-needed : goal.returns-clause-needed
returns-clause-needed c = needed_make
