use Rattle.std.proofs.Common.{◌≡◌, ℕ, length, get_or, drop}
use Rattle.asm_state.specs.declared.value.Value.TheVariants.{Undef}
use Rattle.asm_state.specs.Updates.{overwritten}
use Rattle.asm_updates.specs.code.SummaryRanges.{first_range, AreRanges}
use Rattle.asm_updates.proofs.summary.Summary.fire_into.Given as goal

-- the entries that are left make of the state what all of them make of it as it was
abbrev pub invariant-loop-i : goal.invariant-loop-i
invariant-loop-i l = record {
  whole : length l.state ≡ length l.initial.state;
  own : AreRanges l.self.count l.self.ranges;
  fires : (k : ℕ) → overwritten (first_range (drop l.i l.self.ranges) k) (get_or l.state k Undef) ≡ overwritten (first_range l.self.ranges k) (get_or l.initial.state k Undef);
}
