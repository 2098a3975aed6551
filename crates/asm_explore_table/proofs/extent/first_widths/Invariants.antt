use Rattle.std.proofs.Common.{◌≡◌, ◌<◌, ℕ, length}
use Rattle.std.specs.Prelude.{slice_index_or}
use Rattle.asm_state.specs.Signature.{state_of}
use Rattle.asm_syntax.specs.code.Views.{spec_of}
use Rattle.asm_check.specs.Shapes.{shape_of}
use Rattle.asm_explore_table.specs.Tables.{numbered, shown_value}
use Rattle.asm_explore_table.proofs.extent.first_widths.Given as goal

-- those of the first locations
abbrev pub invariant-loop-n : goal.invariant-loop-n
invariant-loop-n l =
    let s = spec_of l.checked.spec in
    record {
      whole : length l.widths.items ≡ l.n;
      wide : (k : ℕ) → k < l.n → slice_index_or l.widths.items k 0 ≡ length (shown_value s (state_of (shape_of s) l.state (numbered s k)));
    }
