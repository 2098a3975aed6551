use Rattle.std.proofs.Common.{◌≡◌, ◌∙◌, ◌+◌, ℕ, List, Option, ap, subst, sym}
use Rattle.std.specs.Prelude.{IfSome}
use Rattle.asm_state.specs.Signature.{Shape, initial_state, state_of}
use Rattle.asm_state.specs.code.Contents.{IsStateOf}
use Rattle.asm_state.specs.declared.value.Value.{Value}
use Rattle.asm_syntax.specs.code.Views.{spec_of}
use Rattle.asm_step.specs.code.Steps.{shape_in, specification_in}
use Rattle.asm_explore_table.specs.Rows.{row_of}
use Rattle.asm_explore_table.specs.code.StepsMade.{rest_rows, row_said, situation}
use Rattle.asm_explore_table.proofs.PageRows.{bad_first, bad_last, bad_next, row_last, row_next, rows_first}
use Rattle.asm_explore_table.proofs.RunRows.{rows_begin, rows_end, rows_on}
use Rattle.asm_explore_table.proofs.page.add_rows.Goals as goal

pub loop-done-init : goal.loop-done-init
loop-done-init g c =
    let m = c.args.run.now.resolved in
    let s = spec_of m.checked.now.spec in
    let script = g.P.Picks.script c.args.run.now.script.now in
    let is_fault = c.args.run.now.is_fault in
    let limit = c.args.run.now.steps in
    let same = c.signature.ensures in
    let first = c.in_ok-state.state in
    let begin : state_of (shape_in m) first ≡ (specification_in m).initial = subst (λ (sh : Shape). state_of sh first ≡ initial_state sh) same c.in_ok-state.ensures.initial in
    record {
      state = subst (λ (sh : Shape). IsStateOf sh first) same c.in_ok-state.ensures.state;
      rows = rows_first s c.args.chooses c.args.columns.now is_fault c.args.out.now.items _ _ _ _ _ _
          (bad_first m script limit is_fault c.shows_fault-is_bad.result first c.shows_fault-is_bad.ensures)
          begin (rows_begin m script limit first begin) c.in_ok-push_first_row.ensures;
    }

pub returns-in-None : goal.returns-in-None
returns-in-None g c =
    let m = c.args.run.now.resolved in
    let s = spec_of m.checked.now.spec in
    let script = g.P.Picks.script c.args.run.now.script.now in
    let is_fault = c.args.run.now.is_fault in
    let limit = c.args.run.now.steps in
    let l = c.loop-done in
    let row = c.in_ok-row.row in
    let A = state_of (shape_in m) l.state in
    let counted = ap (λ k. k + 1) c.from-number.ensures in
    let is = subst (λ (k : ℕ). row_said (shape_in m) l.state row ≡ row_of (specification_in m) m.turns A (situation script (k + 1))) c.from-number.ensures c.in_ok-row.ensures.is in
    let ends = sym c.into_next.ensures ∙ c.in-None.is in
    let rest = rows_end m script limit l.done l.state row c.loop-done-test.true is ends in
    let bad = bad_last m script limit is_fault c.shows_fault-is_bad-in-loop-done.result c.is_last-is_last.result row.next (c.from-number.result + 1) l.done c.shows_fault-is_bad-in-loop-done.ensures c.is_last-is_last.ensures ends in
    row_last s c.args.chooses c.args.columns.now is_fault l.out.items _ c.shows_fault-is_bad-in-loop-done.result (c.from-number.result + 1) l.done (row_said (shape_in m) l.state row) _ counted c.in_ok-push_step_row.ensures _
    bad rest l.invariant.rows

pub loop-done-preserved : goal.loop-done-preserved
loop-done-preserved g c =
    let m = c.args.run.now.resolved in
    let s = spec_of m.checked.now.spec in
    let script = g.P.Picks.script c.args.run.now.script.now in
    let is_fault = c.args.run.now.is_fault in
    let limit = c.args.run.now.steps in
    let l = c.loop-done in
    let row = c.in_ok-row.row in
    let next = c.in-Some.next in
    let A = state_of (shape_in m) l.state in
    let counted = ap (λ k. k + 1) c.from-number.ensures in
    let is = subst (λ (k : ℕ). row_said (shape_in m) l.state row ≡ row_of (specification_in m) m.turns A (situation script (k + 1))) c.from-number.ensures c.in_ok-row.ensures.is in
    let goes = sym c.into_next.ensures ∙ c.in-Some.is in
    let rest = rows_on m script limit l.done l.state row c.loop-done-test.true is next goes in
    let bad = bad_next m script limit is_fault c.shows_fault-is_bad-in-loop-done.result c.is_last-is_last.result row.next (c.from-number.result + 1) l.done c.shows_fault-is_bad-in-loop-done.ensures c.is_last-is_last.ensures
    next goes counted c.loop-done-test.true in
    record {
      state = subst (λ (o : Option (List Value)). IfSome o (IsStateOf (shape_in m))) goes c.in_ok-row.ensures.state;
      rows = row_next s c.args.chooses c.args.columns.now is_fault l.out.items _ c.shows_fault-is_bad-in-loop-done.result (c.from-number.result + 1) l.done (row_said (shape_in m) l.state row) _ counted c.in_ok-push_step_row.ensures _
          (rest_rows m script limit (l.done + 1) next) bad rest l.invariant.rows;
    }
