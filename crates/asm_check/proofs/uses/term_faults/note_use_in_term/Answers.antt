use Rattle.std.proofs.Common.{ap, ◌∙◌}
use Rattle.asm_check.specs.Errors.{found_of}
use Rattle.asm_check.specs.code.LeastFaults.{least_after}
use Rattle.asm_check.specs.code.uses.TermFaultLists.{at_offset}
use Rattle.asm_check.proofs.uses.term_faults.note_use_in_term.Goals as goal

pub returns : goal.returns
returns c = c.note_fault.ensures ∙ ap (λ o. least_after (found_of c.args.least.now.found) (at_offset c.args.used.name.now.at o)) c.fault_in_role.ensures
