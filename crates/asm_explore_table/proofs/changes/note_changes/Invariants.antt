use Rattle.std.proofs.Common.{◌≡◌, ◌<◌, ◌≤◌, ℕ, false, length}
use Rattle.std.specs.Prelude.{◌||◌, not, slice_index_or}
use Rattle.asm_state.specs.Operation.{is_same}
use Rattle.asm_state.specs.Signature.{Shape, location_at, state_of}
use Rattle.asm_state.specs.code.Contents.{IsStateOf}
use Rattle.asm_explore_table.proofs.changes.note_changes.Given as goal

-- the first of them are noted, and the others are as they were
abbrev pub invariant-loop-n : goal.invariant-loop-n
invariant-loop-n l = record {
  whole : length l.changed ≡ length l.fn.changed;
  done : (shape : Shape) → IsStateOf shape l.before → IsStateOf shape l.after → (k : ℕ) → k < l.n →
      slice_index_or l.changed k false ≡ (slice_index_or l.fn.changed k false || not (is_same (state_of shape l.before (location_at shape k)) (state_of shape l.after (location_at shape k))));
  left : (k : ℕ) → l.n ≤ k → slice_index_or l.changed k false ≡ slice_index_or l.fn.changed k false;
}
