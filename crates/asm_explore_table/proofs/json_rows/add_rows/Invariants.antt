use Rattle.std.proofs.Common.{◌≡◌, ◌+◌, ◌++◌, [], Some}
use Rattle.asm_state.specs.code.Contents.{IsStateOf}
use Rattle.asm_syntax.specs.code.Views.{spec_of}
use Rattle.asm_meaning.specs.Declarations.{specification_of}
use Rattle.asm_step.specs.code.Steps.{shape_in}
use Rattle.asm_explore_table.specs.JsonRows.{row_json, rows_json}
use Rattle.asm_explore_table.specs.Rows.{rows_of}
use Rattle.asm_explore_table.specs.code.JsonParts.{locations_in}
use Rattle.asm_explore_table.specs.code.StepsMade.{rest_rows}
use Rattle.asm_explore_table.proofs.json_rows.add_rows.Given as goal

-- with the rows that are left they are all
abbrev pub invariant-loop-done : goal.invariant-loop-done
invariant-loop-done g l =
    let m = l.resolved in
    let s = spec_of m.checked.now.spec in
    let script = g.P.Picks.script l.script in
    let shown = locations_in l.columns in
    record {
      state : IsStateOf (shape_in m) l.state;
      rows : l.out.items ++ rows_json s shown (l.done + 1) (rest_rows m script l.steps l.done l.state)
          ≡ l.fn.out.items ++ (row_json s shown 0 [] (Some (specification_of s).initial) ++ rows_json s shown 1 (rows_of s m.turns script l.steps));
    }
