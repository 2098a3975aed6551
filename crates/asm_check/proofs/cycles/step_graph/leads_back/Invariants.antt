use Rattle.std.proofs.Common.{◌+◌, length}
use Rattle.asm_check.specs.code.cycles.Graph.{step_lists}
use Rattle.asm_check.specs.code.cycles.MarkedNodes.{unmarked}
use Rattle.asm_check.proofs.CycleLemmas.MarkedNodes.{IsReachedFrom}
use Rattle.asm_check.proofs.cycles.step_graph.leads_back.Given as goal

abbrev pub invariant-loop-from : goal.invariant-loop-from
invariant-loop-from l = IsReachedFrom (step_lists l.steps) l.node l.marks.items l.waiting.items

abbrev pub decreases-loop-from : goal.decreases-loop-from
decreases-loop-from l = unmarked l.marks.items + length l.waiting.items
