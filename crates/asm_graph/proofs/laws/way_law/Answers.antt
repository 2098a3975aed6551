use Rattle.asm_graph.proofs.TakenWays as ways
use Rattle.asm_graph.proofs.laws.way_law.Goals as goal

pub returns : goal.returns
returns c = ways.way_law c.making_laws.ensures
