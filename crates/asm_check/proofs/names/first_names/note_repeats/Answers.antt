use Rattle.std.proofs.Common.{arith, ap, ◌∙◌}
use Rattle.asm_syntax.specs.code.Views.{name_of}
use Rattle.asm_check.specs.Errors.{found_of}
use Rattle.asm_check.specs.declared.least_fault.LeastFault.{LeastFault}
use Rattle.asm_check.proofs.NameLemmas.RepeatedParameters.{again_step, new_step}
use Rattle.asm_check.proofs.names.first_names.note_repeats.Goals as goal
use Rattle.asm_check.proofs.names.first_names.note_repeats.Goals.{then-not-branch, else-not-branch}

pub loop-name-preserved : goal.loop-name-preserved
loop-name-preserved c = elim c.if-not-branch.branch [
  | then-not-branch w ↦
      again_step name_of _ c.args.names.now c.loop-name.name-index c.name-item.result _ _ c.as_bytes.result (omega arith) c.name-item.is c.loop-name.invariant c.as_bytes.ensures
      _ _ _ c.in_ok-insert.ensures.added w.if-not-branch.true c.in_ok-insert.ensures.updates.0 (ap (λ (l : LeastFault). found_of l.found) w.least-is ∙ w.note.ensures)
  | else-not-branch w ↦
      new_step name_of _ c.args.names.now c.loop-name.name-index c.name-item.result _ _ c.as_bytes.result (omega arith) c.name-item.is c.loop-name.invariant c.as_bytes.ensures
      _ _ _ c.in_ok-insert.ensures.added w.if-not-branch.false c.in_ok-insert.ensures.updates.0 (ap (λ (l : LeastFault). found_of l.found) w.least-is)
]
