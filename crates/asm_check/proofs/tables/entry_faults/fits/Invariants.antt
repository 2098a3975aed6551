-- what is left fits if all does
use Rattle.std.proofs.Common.{◌≡◌, map, drop}
use Rattle.std.specs.Prelude.{option_map}
use Rattle.asm_syntax.specs.SourceTree as source
use Rattle.asm_syntax.specs.code.Views.{const_of}
use Rattle.asm_check.specs.code.tables.EntryArguments.{fits_in}
use Rattle.asm_check.specs.code.names.Tables.{IsTableOf, declared_as_view}
use Rattle.asm_check.proofs.tables.entry_faults.fits.Given as goal

abbrev pub invariant-loop-i : goal.invariant-loop-i
invariant-loop-i l = (spec : source.Spec) → IsTableOf spec l.names
    → fits_in spec (map (option_map declared_as_view) (drop l.i l.universes)) (map const_of (drop l.i l.arguments))
    ≡ fits_in spec (map (option_map declared_as_view) l.universes) (map const_of l.arguments)
