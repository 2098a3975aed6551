use Rattle.asm_check.specs.Errors.{found_of}
use Rattle.asm_check.specs.code.cycles.Graph.{step_lists}
use Rattle.asm_check.specs.code.LeastFaults.{IsLeastWith}
use Rattle.asm_check.specs.code.cycles.StepTables.{IsFaultBelow}
use Rattle.asm_check.proofs.cycles.step_faults.note_steps.Given as goal

abbrev pub invariant-loop-node : goal.invariant-loop-node
invariant-loop-node l = IsLeastWith (IsFaultBelow (step_lists l.steps) l.names l.node) (found_of l.fn.least.found) (found_of l.least.found)
