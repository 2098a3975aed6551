use Rattle.std.proofs.Common.{◌≡◌, drop}
use Rattle.std.specs.Prelude.{flat_map}
use Rattle.asm_syntax.specs.SourceTree.{Spec}
use Rattle.asm_check.specs.Errors.{found_of}
use Rattle.asm_check.specs.code.LeastFaults.{least_after}
use Rattle.asm_check.specs.code.names.Tables.{IsTableOf}
use Rattle.asm_check.proofs.UseLemmas.UseFaults.{list_faults}
use Rattle.asm_check.proofs.uses.use_faults.note_uses.Given as goal

-- the faults of the lists that are left make of what is found what all of them make of it
abbrev pub invariant-loop-list : goal.invariant-loop-list
invariant-loop-list l = (spec : Spec) → IsTableOf spec l.names
    → least_after (found_of l.least.found) (flat_map (list_faults spec) (drop l.list-index l.uses)) ≡ least_after (found_of l.initial.least.found) (flat_map (list_faults spec) l.uses)
