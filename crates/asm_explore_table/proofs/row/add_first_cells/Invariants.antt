use Rattle.std.proofs.Common.{◌≡◌, ℕ, List, drop}
use Rattle.asm_state.specs.Signature.{state_of}
use Rattle.asm_syntax.specs.code.Views.{spec_of}
use Rattle.asm_check.specs.Shapes.{shape_of}
use Rattle.asm_explore_table.specs.Tables.{numbered, shown_value, with_cells}
use Rattle.asm_explore_table.proofs.row.add_first_cells.Given as goal

-- with the cells of the other columns the line is whole
abbrev pub invariant-loop-k : goal.invariant-loop-k
invariant-loop-k l =
    let s = spec_of l.checked.spec in
    let text : ℕ → List ℕ = λ n. shown_value s (state_of (shape_of s) l.state (numbered s n)) in
    with_cells text l.line.items (drop l.k l.columns) ≡ with_cells text l.fn.line.items l.columns
