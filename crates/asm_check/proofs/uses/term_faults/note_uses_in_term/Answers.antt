use Rattle.std.proofs.Common.{ap, sym, ◌∙◌}
use Rattle.std.proofs.lemmas.List.{at_drop_all}
use Rattle.std.proofs.lemmas.List.Folds.{flat_map-map}
use Rattle.std.specs.Prelude.{flat_map}
use Rattle.asm_syntax.specs.code.Views.{spec_of}
use Rattle.asm_check.specs.Errors.{found_of}
use Rattle.asm_check.specs.code.LeastFaults.{least_after}
use Rattle.asm_check.specs.code.uses.TermFaultLists.{faults_in_term}
use Rattle.asm_check.specs.code.uses.UseViews.{use_of}
use Rattle.asm_check.proofs.UseLemmas.UseFaults.{one_step}
use Rattle.asm_check.proofs.uses.term_faults.note_uses_in_term.Goals as goal

pub loop-used-preserved : goal.loop-used-preserved
loop-used-preserved c =
    let spec = spec_of c.args.checked.now.spec in
    one_step (λ u. faults_in_term spec (use_of u)) _ (found_of c.loop-used.least.found) _ c.args.uses.now c.loop-used.used-index c.used-item.result c.loop-used-test.true c.loop-used.invariant
    (c.note_use_in_term.ensures ∙ ap (λ u. least_after (found_of c.loop-used.least.found) (faults_in_term spec (use_of u))) c.used-item.is)

pub returns : goal.returns
returns c =
    let spec = spec_of c.args.checked.now.spec in
    sym (at_drop_all (λ us. least_after (found_of c.loop-used.least.found) (flat_map (λ u. faults_in_term spec (use_of u)) us)) c.args.uses.now c.loop-used.used-index c.loop-used-test.false)
    ∙ c.loop-used.invariant
    ∙ ap (least_after (found_of c.args.least.now.found)) (sym (flat_map-map (faults_in_term spec) use_of c.args.uses.now))
