use Rattle.std.proofs.Common.{◌≡◌, map, take}
use Rattle.std.specs.Prelude.{option_map}
use Rattle.asm_syntax.specs.SourceTree as source
use Rattle.asm_syntax.specs.code.Views.{name_of}
use Rattle.asm_check.specs.Names.{declared}
use Rattle.asm_check.specs.code.names.Tables.{IsTableOf, declared_as_view}
use Rattle.asm_check.proofs.tables.entry_faults.universes_of.Given as goal

abbrev pub invariant-loop-name : goal.invariant-loop-name
invariant-loop-name l = (spec : source.Spec) → IsTableOf spec l.names → map (option_map declared_as_view) l.universes.items ≡ map (λ u. declared spec u.text) (map name_of (take l.name-index l.domain))
