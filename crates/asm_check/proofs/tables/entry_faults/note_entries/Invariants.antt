-- what is found with the faults of the items that are left is what is found of all
use Rattle.std.proofs.Common.{◌≡◌, [], map, drop}
use Rattle.std.specs.Prelude.{flat_map}
use Rattle.asm_syntax.specs.code.Views.{item_of, spec_of}
use Rattle.asm_check.specs.Errors.{found_of}
use Rattle.asm_check.specs.code.FaultLists.{bad_entries}
use Rattle.asm_check.specs.Faults.{table_of}
use Rattle.asm_check.specs.code.LeastFaults.{least_after}
use Rattle.asm_check.proofs.tables.entry_faults.note_entries.Given as goal

abbrev pub invariant-loop-item : goal.invariant-loop-item
invariant-loop-item l =
    least_after (found_of l.least.found) (flat_map (λ t. bad_entries (spec_of l.spec) t.0 [] t.1) (flat_map table_of (map item_of (drop l.item-index l.item-items))))
    ≡ least_after (found_of l.fn.least.found) (flat_map (λ t. bad_entries (spec_of l.spec) t.0 [] t.1) (flat_map table_of (map item_of l.item-items)))
