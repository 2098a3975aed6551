use Rattle.asm_syntax.specs.code.Views.{spec_of, item_of}
use Rattle.std.proofs.Common.{ap, sym, ◌∙◌, map}
use Rattle.asm_check.specs.Errors.{found_of}
use Rattle.asm_check.specs.code.names.Gathering.{parameter_faults}
use Rattle.asm_check.specs.code.LeastFaults.{least_after}
use Rattle.asm_check.proofs.NameLemmas.DeclarationsGathered.{table_is, least_is}
use Rattle.asm_check.proofs.names.first_names.first_names.Goals as goal

pub returns-clause-table : goal.returns-clause-table
returns-clause-table c =
    table_is (spec_of c.args.spec.now) _ _ _ _ _ _ _ c.in_ok-names.ensures.empty (ap (map item_of) c.deref.ensures.value) c.in_ok-predeclare_all.ensures c.in_ok-declare_items.ensures

pub returns-clause-least : goal.returns-clause-least
returns-clause-least c =
    least_is (spec_of c.args.spec.now) _ _ _ _ _ _ _ c.in_ok-names.ensures.empty (ap (map item_of) c.deref.ensures.value) _ c.in_ok-predeclare_all.ensures c.in_ok-declare_items.ensures
    (c.in_ok-note_parameters.ensures ∙ ap (λ ys. least_after (found_of c.declare_items.new.least.found) (parameter_faults (map item_of ys))) (c.deref-2.ensures.value ∙ sym c.deref.ensures.value))
