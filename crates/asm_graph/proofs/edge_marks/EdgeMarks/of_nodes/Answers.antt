use Rattle.asm_graph.proofs.WalkLemmas.{no_rows}
use Rattle.asm_graph.proofs.edge_marks.EdgeMarks.of_nodes.Goals as goal

pub returns-clause-none : goal.returns-clause-none
returns-clause-none c = no_rows (record { rows = c.loop.rows }) c.loop.invariant.empty
