use Rattle.asm_check.specs.Errors.{found_of}
use Rattle.asm_check.specs.code.cycles.Graph.{step_lists}
use Rattle.asm_check.proofs.cycles.step_faults.note_cycle.Goals as goal
use Rattle.asm_check.proofs.CycleLemmas.CycleNotes.{cycle_noted}

pub returns-then-branch : goal.returns-then-branch
returns-then-branch c = cycle_noted (step_lists c.args.steps.now) c.args.node c.args.declared c.in-Some.kind c.in-Some.ensures (c.in_ok-leads_back.ensures.0 c.if-branch.true) (found_of c.args.least.now.found) (found_of c.note.new.self.found) c.note.ensures
