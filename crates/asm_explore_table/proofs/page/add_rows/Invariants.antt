use Rattle.std.proofs.Common.{◌≡◌, ◌+◌, ◌++◌}
use Rattle.asm_state.specs.code.Contents.{IsStateOf}
use Rattle.asm_syntax.specs.code.Views.{spec_of}
use Rattle.asm_meaning.specs.Declarations.{specification_of}
use Rattle.asm_step.specs.code.Steps.{shape_in}
use Rattle.asm_explore_table.specs.Pages.{step_rows, table_rows}
use Rattle.asm_explore_table.specs.Rows.{rows_of}
use Rattle.asm_explore_table.specs.code.StepsMade.{rest_rows}
use Rattle.asm_explore_table.proofs.page.add_rows.Given as goal

-- with the rows that are left they are all
abbrev pub invariant-loop-done : goal.invariant-loop-done
invariant-loop-done g l =
    let m = l.run.resolved in
    let s = spec_of m.checked.now.spec in
    let script = g.P.Picks.script l.run.script.now in
    record {
      state : IsStateOf (shape_in m) l.state;
      rows : l.out.items ++ step_rows s l.chooses l.columns l.run.is_fault (l.done + 1) (rest_rows m script l.run.steps l.done l.state)
          ≡ l.fn.out.items ++ table_rows s l.chooses l.columns l.run.is_fault (specification_of s).initial (rows_of s m.turns script l.run.steps);
    }
