use Rattle.std.proofs.Common.{None, map, ap, ◌∙◌}
use Rattle.std.specs.Prelude.{flat_map}
use Rattle.asm_syntax.specs.code.Views.{spec_of, term_of}
use Rattle.asm_check.specs.code.LeastFaults.{least_after}
use Rattle.asm_check.specs.code.uses.TermFaultLists.{faults_in_term}
use Rattle.asm_check.specs.code.uses.UseViews.{use_of}
use Rattle.asm_check.proofs.UseLemmas.TermFaults.{term_soonest}
use Rattle.asm_check.proofs.uses.term_faults.least_term_fault.Goals as goal

pub returns : goal.returns
returns c =
    let spec = spec_of c.args.checked.now.spec in
    term_soonest spec (term_of c.args.term.now) _
    (c.least_of_uses.ensures
    ∙ ap (λ us. least_after None (flat_map (faults_in_term spec) (map use_of us))) c.as_slice.ensures.value
    ∙ ap (λ us. least_after None (flat_map (faults_in_term spec) us)) c.in_ok-uses.ensures)
