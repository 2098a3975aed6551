use Rattle.asm_graph.proofs.NodeNames.{named_law}
use Rattle.asm_graph.proofs.laws.named_law.Goals as goal

pub returns : goal.returns
returns c = named_law
