use Rattle.std.proofs.Common.{◌≡◌, ◌<◌, false}
use Rattle.std.specs.Prelude.{All, filter, slice_index_or}
use Rattle.std.specs.List.{range_with_len}
use Rattle.asm_state.specs.Signature.{count_of}
use Rattle.asm_syntax.specs.code.Views.{spec_of}
use Rattle.asm_check.specs.Shapes.{shape_of}
use Rattle.asm_explore_table.specs.Tables.{numbered}
use Rattle.asm_explore_table.specs.code.StepsMade.{column_by, names_said}
use Rattle.asm_explore_table.proofs.columns.columns.Given as goal

-- those of the first locations
abbrev pub invariant-loop-n : goal.invariant-loop-n
invariant-loop-n l =
    let s = spec_of l.checked.spec in
    record {
      are : l.columns.items ≡ filter (λ n. column_by s (names_said l.names) (slice_index_or l.extent.changed.items n false) (numbered s n)) (range_with_len 0 l.n);
      within : All (λ n. n < count_of (shape_of s)) l.columns.items;
    }
