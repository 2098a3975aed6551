use Rattle.std.proofs.Common.{◌≡◌, ℕ, false, length}
use Rattle.std.specs.Prelude.{slice_index_or}
use Rattle.asm_explore_table.proofs.extent.nothing_changed.Given as goal

abbrev pub invariant-loop : goal.invariant-loop
invariant-loop l = record {
  whole : length l.changed.items ≡ l.counter;
  none : (n : ℕ) → slice_index_or l.changed.items n false ≡ false;
}
