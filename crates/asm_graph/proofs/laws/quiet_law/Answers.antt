use Rattle.asm_graph.proofs.QuietNodes.{quiet_law}
use Rattle.asm_graph.proofs.laws.quiet_law.Goals as goal

pub returns : goal.returns
returns c = quiet_law
