use Rattle.asm_reader.proofs.ScriptLemmas.MoreLines.{pick_line}
use Rattle.asm_reader.proofs.laws.pick_line.Goals as goal

pub returns : goal.returns
returns c = pick_line
