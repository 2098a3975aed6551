use Rattle.asm_reader.proofs.ScriptLemmas.SaidLines.{each_says, exact_apart, every_apart}
use Rattle.asm_reader.proofs.laws.script_lines.Goals as goal

pub returns-clause-said : goal.returns-clause-said
returns-clause-said c = each_says

pub returns-clause-apart : goal.returns-clause-apart
returns-clause-apart c = exact_apart

pub returns-clause-every_apart : goal.returns-clause-every_apart
returns-clause-every_apart c = every_apart
