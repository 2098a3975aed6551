use Rattle.asm_check.specs.code.cycles.Graph.{step_lists}
use Rattle.asm_check.specs.code.cycles.CycleSearch.{IsSearchOf, IsMet, KeepsMet, work_of}
use Rattle.asm_check.proofs.cycles.cycle_search.Search.explore.Given as goal

abbrev pub invariant-loop-last : goal.invariant-loop-last
invariant-loop-last l = record {
  search : IsSearchOf (step_lists l.steps) l.self;
  kept : KeepsMet l.fn.self l.self;
  met : IsMet l.self l.node;
}

abbrev pub decreases-loop-last : goal.decreases-loop-last
decreases-loop-last l = work_of (step_lists l.steps) l.self
