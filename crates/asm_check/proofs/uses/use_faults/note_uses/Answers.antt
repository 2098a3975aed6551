use Rattle.std.proofs.Common.{map, ap, sym, ◌∙◌}
use Rattle.std.proofs.lemmas.List.{at_drop_all}
use Rattle.std.specs.Prelude.{flat_map}
use Rattle.asm_check.specs.Errors.{found_of}
use Rattle.asm_check.specs.code.FaultLists.{all_of_use}
use Rattle.asm_check.specs.code.LeastFaults.{least_after}
use Rattle.asm_check.specs.code.uses.UseViews.{use_of}
use Rattle.asm_check.proofs.UseLemmas.UseFaults.{one_step, list_faults, faults_of_lists}
use Rattle.asm_check.proofs.uses.use_faults.note_uses.Goals as goal

pub loop-list-preserved : goal.loop-list-preserved
loop-list-preserved c = λ spec table.
    one_step (list_faults spec) _ (found_of c.loop-list.least.found) _ c.args.uses.now c.loop-list.list-index c.list-item.result c.loop-list-test.true (c.loop-list.invariant spec table)
    (c.note_each.ensures spec table
    ∙ ap (λ us. least_after (found_of c.loop-list.least.found) (flat_map (all_of_use spec) (map use_of us))) c.deref.ensures.value
    ∙ ap (λ v. least_after (found_of c.loop-list.least.found) (list_faults spec v)) c.list-item.is)

pub returns : goal.returns
returns c = λ spec table are.
    sym (at_drop_all (λ vs. least_after (found_of c.loop-list.least.found) (flat_map (list_faults spec) vs)) c.args.uses.now c.loop-list.list-index c.loop-list-test.false)
    ∙ c.loop-list.invariant spec table
    ∙ ap (least_after (found_of c.args.least.now.found)) (sym (faults_of_lists spec c.args.uses.now are))
