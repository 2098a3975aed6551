use Rattle.asm_meaning.proofs.Targets.{target_names-controlled, target_names-of_static, target_names-other}
use Rattle.asm_meaning.proofs.laws.target_names.Goals as goal

pub returns-clause-controlled : goal.returns-clause-controlled
returns-clause-controlled c = target_names-controlled

pub returns-clause-of_static : goal.returns-clause-of_static
returns-clause-of_static c = target_names-of_static

pub returns-clause-other : goal.returns-clause-other
returns-clause-other c = target_names-other
