use Rattle.std.proofs.Common.{ap, sym, ◌∙◌}
use Rattle.asm_check.specs.Errors.{found_of}
use Rattle.asm_check.specs.code.LeastFaults.{least_after}
use Rattle.asm_check.specs.code.uses.UseViews.{role_of, use_of}
use Rattle.asm_check.proofs.UseLemmas.UseFaults.{bound_faults}
use Rattle.asm_check.proofs.uses.use_faults.note_use.Goals as goal

pub returns-in-InTerm : goal.returns-in-InTerm
returns-in-InTerm c = λ spec table.
    c.note_arguments.ensures ∙ ap (least_after (found_of c.args.least.now.found)) (sym (bound_faults spec (use_of c.args.used) (ap role_of c.in-InTerm.is) c.if-used.true))
