use Rattle.std.proofs.Common.{take}
use Rattle.asm_check.specs.code.cycles.MarkedNodes.{HasMarked}
use Rattle.asm_check.proofs.cycles.step_graph.mark_all.Given as goal

abbrev pub invariant-loop-node : goal.invariant-loop-node
invariant-loop-node l = HasMarked (take l.node-index l.nodes) l.initial.marks.items l.initial.waiting.items l.marks.items l.waiting.items
