use Rattle.asm_graph.proofs.WalkLemmas.{mark_more}
use Rattle.asm_graph.proofs.edge_marks.EdgeMarks.add.Goals as goal

pub returns-clause-more : goal.returns-clause-more
returns-clause-more c = λ j n. mark_more c.args.self.now.rows.items c.args.node c.args.number c.index_mut.result.now c.push.new.self c.requires c.index_mut.ensures.value c.in_ok-push.ensures.items j n
