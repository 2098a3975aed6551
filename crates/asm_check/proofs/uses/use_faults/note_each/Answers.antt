use Rattle.std.proofs.Common.{ap, sym, ◌∙◌}
use Rattle.std.proofs.lemmas.List.{at_drop_all}
use Rattle.std.proofs.lemmas.List.Folds.{flat_map-map}
use Rattle.std.specs.Prelude.{flat_map}
use Rattle.asm_check.specs.Errors.{found_of}
use Rattle.asm_check.specs.code.FaultLists.{all_of_use, faults_of_use, misuse}
use Rattle.asm_check.specs.code.LeastFaults.{least_after}
use Rattle.asm_check.specs.code.uses.UseViews.{use_of}
use Rattle.asm_check.proofs.LeastSoFar.{noted_after}
use Rattle.asm_check.proofs.UseLemmas.UseFaults.{one_step}
use Rattle.asm_check.proofs.uses.use_faults.note_each.Goals as goal

pub loop-used-preserved : goal.loop-used-preserved
loop-used-preserved c = λ spec table.
    one_step (λ u. all_of_use spec (use_of u)) _ (found_of c.loop-used.least.found) _ c.args.uses.now c.loop-used.used-index c.used-item.result c.loop-used-test.true (c.loop-used.invariant spec table)
    (c.note_misuse.ensures spec table
    ∙ noted_after (found_of c.loop-used.least.found) _ (faults_of_use spec (use_of c.used-item.result)) (misuse spec (use_of c.used-item.result)) (c.note_use.ensures spec table)
    ∙ ap (λ u. least_after (found_of c.loop-used.least.found) (all_of_use spec (use_of u))) c.used-item.is)

pub returns : goal.returns
returns c = λ spec table.
    sym (at_drop_all (λ us. least_after (found_of c.loop-used.least.found) (flat_map (λ u. all_of_use spec (use_of u)) us)) c.args.uses.now c.loop-used.used-index c.loop-used-test.false)
    ∙ c.loop-used.invariant spec table
    ∙ ap (least_after (found_of c.args.least.now.found)) (sym (flat_map-map (all_of_use spec) use_of c.args.uses.now))
