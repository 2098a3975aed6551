use Rattle.std.proofs.Common.{◌≡◌, ◌-◌, drop, length}
use Rattle.asm_state.specs.Signature.{domain_in}
use Rattle.asm_state.proofs.TableValues.{values_by}
use Rattle.asm_state.proofs.layout.table_values.Given as goal

abbrev pub invariant-loop-i : goal.invariant-loop-i
invariant-loop-i l = l.values.items ≡ values_by (domain_in l.universes l.domain) (drop (length l.entries - l.i) l.entries)
