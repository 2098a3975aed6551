use Rattle.std.proofs.Common.{◌≡◌}
use Rattle.asm_state.specs.Signature.{count_of}
use Rattle.asm_state.specs.code.Contents.{IsStateOf}
use Rattle.asm_syntax.specs.code.Views.{spec_of}
use Rattle.asm_meaning.specs.Declarations.{specification_of}
use Rattle.asm_step.specs.code.Steps.{shape_in}
use Rattle.asm_explore_table.specs.Rows.{rows_of}
use Rattle.asm_explore_table.specs.code.Extents.{HasRoom}
use Rattle.asm_explore_table.specs.code.StepsMade.{rest_rows}
use Rattle.asm_explore_table.proofs.NotedRows.{IsNoted}
use Rattle.asm_explore_table.proofs.extent.run_extent.Given as goal

-- what is noted, with the rows that are left, is what all rows have
abbrev pub invariant-loop-done : goal.invariant-loop-done
invariant-loop-done g l =
    let m = l.resolved in
    let s = spec_of m.checked.now.spec in
    let script = g.P.Picks.script l.script in
    record {
      state : IsStateOf (shape_in m) l.state;
      room : HasRoom (count_of (shape_in m)) l.extent;
      counted : l.extent.steps ≡ l.done;
      noted : IsNoted s (specification_of s).initial l.extent (rest_rows m script l.steps l.done l.state) (rows_of s m.turns script l.steps);
    }
