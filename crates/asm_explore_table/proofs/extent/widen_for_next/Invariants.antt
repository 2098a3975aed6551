use Rattle.std.proofs.Common.{◌≡◌, ◌<◌, ◌≤◌, ℕ, length, max}
use Rattle.std.specs.Prelude.{slice_index_or}
use Rattle.asm_state.specs.Signature.{state_of}
use Rattle.asm_syntax.specs.code.Views.{spec_of}
use Rattle.asm_check.specs.Shapes.{shape_of}
use Rattle.asm_explore_table.specs.Tables.{cell}
use Rattle.asm_explore_table.proofs.extent.widen_for_next.Given as goal

-- the first of them are wide enough, and the others are as they were
abbrev pub invariant-loop-n : goal.invariant-loop-n
invariant-loop-n l =
    let s = spec_of l.checked.spec in
    record {
      whole : length l.widths ≡ length l.fn.widths;
      done : (k : ℕ) → k < l.n → slice_index_or l.widths k 0 ≡ max (slice_index_or l.fn.widths k 0) (length (cell s (state_of (shape_of s) l.before) (state_of (shape_of s) l.after) k));
      left : (k : ℕ) → l.n ≤ k → slice_index_or l.widths k 0 ≡ slice_index_or l.fn.widths k 0;
    }
