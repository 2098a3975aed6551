use Rattle.asm_graph.proofs.Quoted.{quoted_law}
use Rattle.asm_graph.proofs.laws.quoted_law.Goals as goal

pub returns : goal.returns
returns c = quoted_law
