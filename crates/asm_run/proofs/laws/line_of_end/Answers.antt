use Rattle.asm_run.proofs.EndTexts.{line_of_end}
use Rattle.asm_run.proofs.laws.line_of_end.Goals as goal

pub returns : goal.returns
returns c = line_of_end
