use Rattle.std.proofs.Common.{◌≡◌, ◌++◌, take}
use Rattle.std.specs.List.{flat_map}
use Rattle.asm_state.specs.Signature.{state_of}
use Rattle.asm_syntax.specs.code.Views.{spec_of}
use Rattle.asm_check.specs.Shapes.{shape_of}
use Rattle.asm_explore_table.specs.Pages.{first_cell}
use Rattle.asm_explore_table.proofs.page_row.push_first_cells.Given as goal

-- those of the first columns
abbrev pub invariant-loop-k : goal.invariant-loop-k
invariant-loop-k l =
    let s = spec_of l.table.checked.now.spec in
    l.out.items ≡ l.fn.out.items ++ flat_map (first_cell s (state_of (shape_of s) l.state)) (take l.k l.table.columns.now)
