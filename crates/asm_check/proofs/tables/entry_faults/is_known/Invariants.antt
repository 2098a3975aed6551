-- what is left is known if all is
use Rattle.std.proofs.Common.{◌≡◌, ◌++◌, map, drop}
use Rattle.std.specs.Prelude.{flat_map}
use Rattle.std.specs.List.{list_all}
use Rattle.asm_syntax.specs.SourceTree as source
use Rattle.asm_syntax.specs.code.Views.{const_of, entry_of}
use Rattle.asm_check.specs.Faults.{is_known_use}
use Rattle.asm_check.specs.Names.{uses_of_const, uses_of_entry}
use Rattle.asm_check.specs.code.names.Tables.{IsTableOf}
use Rattle.asm_check.proofs.tables.entry_faults.is_known.Given as goal

abbrev pub invariant-loop-argument : goal.invariant-loop-argument
invariant-loop-argument l = (spec : source.Spec) → IsTableOf spec l.names
    → list_all (is_known_use spec) (flat_map uses_of_const (map const_of (drop l.argument-index l.argument-items)) ++ uses_of_const (const_of l.entry.value))
    ≡ list_all (is_known_use spec) (uses_of_entry (entry_of l.entry))
