use Rattle.asm_check.specs.Errors.{found_of}
use Rattle.asm_check.specs.code.cycles.Graph.{step_lists}
use Rattle.asm_check.proofs.cycles.step_faults.note_node.Goals as goal
use Rattle.asm_check.proofs.CycleLemmas.CycleNotes.{node_high}

pub returns-then-is_long : goal.returns-then-is_long
returns-then-is_long c = node_high (step_lists c.args.steps.now) c.args.node c.args.declared (c.requires.settled c.if-is_reaching.false) (c.requires.long c.if-is_long.true) (found_of c.args.least.now.found) (found_of c.note.new.self.found) c.note.ensures
