use Rattle.std.proofs.Common.{◌≡◌, drop}
use Rattle.std.specs.Prelude.{flat_map}
use Rattle.asm_syntax.specs.code.Views.{spec_of}
use Rattle.asm_check.specs.Errors.{found_of}
use Rattle.asm_check.specs.code.LeastFaults.{least_after}
use Rattle.asm_check.specs.code.uses.TermFaultLists.{faults_in_term}
use Rattle.asm_check.specs.code.uses.UseViews.{use_of}
use Rattle.asm_check.proofs.uses.term_faults.note_uses_in_term.Given as goal

-- the faults of the uses that are left make of what is found what all of them make of it
abbrev pub invariant-loop-used : goal.invariant-loop-used
invariant-loop-used l =
    least_after (found_of l.least.found) (flat_map (λ u. faults_in_term (spec_of l.checked.spec) (use_of u)) (drop l.used-index l.uses))
    ≡ least_after (found_of l.initial.least.found) (flat_map (λ u. faults_in_term (spec_of l.checked.spec) (use_of u)) l.uses)
