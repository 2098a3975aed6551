use Rattle.std.proofs.Common.{◌≡◌, ◌∙◌, ◌+◌, ℕ, List, Option, subst, sym}
use Rattle.std.specs.Prelude.{IfSome}
use Rattle.asm_state.specs.Signature.{Shape, initial_state, state_of}
use Rattle.asm_state.specs.code.Contents.{IsStateOf}
use Rattle.asm_state.specs.declared.value.Value.{Value}
use Rattle.asm_syntax.specs.code.Views.{spec_of}
use Rattle.asm_step.specs.code.Steps.{shape_in, specification_in}
use Rattle.asm_explore_table.specs.Rows.{row_of}
use Rattle.asm_explore_table.specs.code.JsonParts.{locations_in}
use Rattle.asm_explore_table.specs.code.StepsMade.{rest_rows, row_said, situation}
use Rattle.asm_explore_table.proofs.JsonRuns.{json_first, json_last, json_next}
use Rattle.asm_explore_table.proofs.RunRows.{rows_begin, rows_end, rows_on}
use Rattle.asm_explore_table.proofs.json_rows.add_rows.Goals as goal

pub loop-done-init : goal.loop-done-init
loop-done-init g c =
    let m = c.args.resolved.now in
    let script = g.P.Picks.script c.args.script.now in
    let same = c.signature.ensures in
    let first = c.in_ok-state.state in
    let begin : state_of (shape_in m) first ≡ (specification_in m).initial = subst (λ (sh : Shape). state_of sh first ≡ initial_state sh) same c.in_ok-state.ensures.initial in
    record {
      state = subst (λ (sh : Shape). IsStateOf sh first) same c.in_ok-state.ensures.state;
      rows = json_first (spec_of m.checked.now.spec) (locations_in c.args.columns.now) c.args.out.now.items _ _ _ _ _ begin (rows_begin m script c.args.steps first begin)
          c.in_ok-add_first_row.ensures;
    }

pub returns-in-None : goal.returns-in-None
returns-in-None g c =
    let m = c.args.resolved.now in
    let script = g.P.Picks.script c.args.script.now in
    let l = c.loop-done in
    let row = c.in_ok-row.row in
    let A = state_of (shape_in m) l.state in
    let is = subst (λ (k : ℕ). row_said (shape_in m) l.state row ≡ row_of (specification_in m) m.turns A (situation script (k + 1))) c.from-number.ensures c.in_ok-row.ensures.is in
    let ends = sym c.into_next.ensures ∙ c.in-None.is in
    let rest = rows_end m script c.args.steps l.done l.state row c.loop-done-test.true is ends in
    json_last (spec_of m.checked.now.spec) (locations_in c.args.columns.now) l.out.items _ c.from-number.result l.done (row_said (shape_in m) l.state row) _ c.from-number.ensures c.in_ok-add_row.ensures _ rest l.invariant.rows

pub loop-done-preserved : goal.loop-done-preserved
loop-done-preserved g c =
    let m = c.args.resolved.now in
    let script = g.P.Picks.script c.args.script.now in
    let l = c.loop-done in
    let row = c.in_ok-row.row in
    let next = c.in-Some.next in
    let A = state_of (shape_in m) l.state in
    let is = subst (λ (k : ℕ). row_said (shape_in m) l.state row ≡ row_of (specification_in m) m.turns A (situation script (k + 1))) c.from-number.ensures c.in_ok-row.ensures.is in
    let goes = sym c.into_next.ensures ∙ c.in-Some.is in
    let rest = rows_on m script c.args.steps l.done l.state row c.loop-done-test.true is next goes in
    record {
      state = subst (λ (o : Option (List Value)). IfSome o (IsStateOf (shape_in m))) goes c.in_ok-row.ensures.state;
      rows = json_next (spec_of m.checked.now.spec) (locations_in c.args.columns.now) l.out.items _ c.from-number.result l.done (row_said (shape_in m) l.state row) _ c.from-number.ensures c.in_ok-add_row.ensures _
          (rest_rows m script c.args.steps (l.done + 1) next) rest l.invariant.rows;
    }
