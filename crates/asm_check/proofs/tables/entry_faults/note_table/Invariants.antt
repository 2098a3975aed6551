-- The arguments so far are kept, and what is found with the bad entries of the
-- rest is what is found with all.
use Rattle.std.proofs.Common.{◌≡◌, [], map, take, drop}
use Rattle.asm_syntax.specs.SourceTree as source
use Rattle.asm_syntax.specs.code.Views.{name_of, entry_of}
use Rattle.asm_check.specs.code.tables.EntryArguments.{HasSeen}
use Rattle.asm_check.specs.Errors.{found_of}
use Rattle.asm_check.specs.code.FaultLists.{bad_entries}
use Rattle.asm_check.specs.code.LeastFaults.{least_after}
use Rattle.asm_check.specs.code.names.Tables.{IsTableOf}
use Rattle.asm_check.proofs.tables.entry_faults.note_table.Given as goal

abbrev pub invariant-loop-entry : goal.invariant-loop-entry
invariant-loop-entry l =
    record {
      kept : HasSeen (map entry_of (take l.entry-index l.entries)) l.seen.keys;
      found : (spec : source.Spec) → IsTableOf spec l.names
          → least_after (found_of l.least.found) (bad_entries spec (map name_of l.domain) (map entry_of (take l.entry-index l.entries)) (map entry_of (drop l.entry-index l.entries)))
          ≡ least_after (found_of l.fn.least.found) (bad_entries spec (map name_of l.domain) [] (map entry_of l.entries));
    }
