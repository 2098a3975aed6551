use Rattle.std.proofs.Common.{◌≡◌, ◌∙◌, ◌+◌, ◌<◌, ◌^◌, [], ℕ, List, Option, arith, refl, subst, sym}
use Rattle.std.specs.Prelude.{IfSome}
use Rattle.asm_state.specs.Location.{State}
use Rattle.asm_state.specs.Signature.{Shape, initial_state, state_of}
use Rattle.asm_state.specs.code.Contents.{IsStateOf}
use Rattle.asm_state.specs.declared.value.Value.{Value}
use Rattle.asm_meaning.specs.Declarations.{specification_of}
use Rattle.asm_step.specs.code.Steps.{shape_in, specification_in}
use Rattle.asm_syntax.specs.code.Views.{spec_of}
use Rattle.asm_explore_table.specs.Rows.{Row, row_of, rows_of}
use Rattle.asm_explore_table.specs.code.Extents.{IsExtentOf}
use Rattle.asm_explore_table.specs.code.StepsMade.{rest_rows, row_said, situation}
use Rattle.asm_explore_table.proofs.NotedRows.{IsNoted, noted_at_end, noted_first, noted_on}
use Rattle.asm_explore_table.proofs.RunRows.{none_left, rows_begin, rows_end, rows_on}
use Rattle.asm_explore_table.proofs.extent.run_extent.Goals as goal

pub loop-done-init : goal.loop-done-init
loop-done-init g c =
    let m = c.args.resolved.now in
    let s = spec_of m.checked.now.spec in
    let script = g.P.Picks.script c.args.script.now in
    let same = c.signature.ensures in
    let first = c.in_ok-state.state in
    let begin : state_of (shape_in m) first ≡ (specification_in m).initial = subst (λ (sh : Shape). state_of sh first ≡ initial_state sh) same c.in_ok-state.ensures.initial in
    let all = rows_of s m.turns script c.args.steps in
    let found = subst (λ (A : State). IsExtentOf s A c.in_ok-extent.extent []) begin c.in_ok-extent.ensures.found in
    record {
      state = subst (λ (sh : Shape). IsStateOf sh first) same c.in_ok-state.ensures.state;
      room = c.in_ok-extent.ensures.whole;
      counted = found.steps;
      noted = subst (λ (rows : List Row). IsNoted s (specification_of s).initial c.in_ok-extent.extent rows all) (sym (rows_begin m script c.args.steps first begin))
          (noted_first s (specification_of s).initial c.in_ok-extent.extent all found);
    }

pub returns-in-None-clause-found : goal.returns-in-None-clause-found
returns-in-None-clause-found g c =
    let m = c.args.resolved.now in
    let s = spec_of m.checked.now.spec in
    let script = g.P.Picks.script c.args.script.now in
    let l = c.loop-done in
    let row = c.in_ok-row.row in
    let A = state_of (shape_in m) l.state in
    let said = row_said (shape_in m) l.state row in
    let all = rows_of s m.turns script c.args.steps in
    let is = subst (λ (k : ℕ). row_said (shape_in m) l.state row ≡ row_of (specification_in m) m.turns A (situation script (k + 1))) c.from.ensures c.in_ok-row.ensures.is in
    let ends = sym c.into_next.ensures ∙ c.in-None.is in
    let rest = rows_end m script c.args.steps l.done l.state row c.loop-done-test.true is ends in
    let first = (specification_of s).initial in
    let new = c.add.new.self in
    let few : new.steps < 2 ^ 32 = omega (arith, c.in_ok-add.ensures.added.steps, l.invariant.counted, c.loop-done-test.true, c.ranges.steps.fits) in
    noted_at_end s first new [] all refl few (noted_on s first l.extent new said (rest_rows m script c.args.steps l.done l.state) [] all rest c.in_ok-add.ensures.added l.invariant.noted)

pub loop-done-preserved : goal.loop-done-preserved
loop-done-preserved g c =
    let m = c.args.resolved.now in
    let s = spec_of m.checked.now.spec in
    let script = g.P.Picks.script c.args.script.now in
    let l = c.loop-done in
    let row = c.in_ok-row.row in
    let next = c.in-Some.next in
    let A = state_of (shape_in m) l.state in
    let said = row_said (shape_in m) l.state row in
    let all = rows_of s m.turns script c.args.steps in
    let is = subst (λ (k : ℕ). row_said (shape_in m) l.state row ≡ row_of (specification_in m) m.turns A (situation script (k + 1))) c.from.ensures c.in_ok-row.ensures.is in
    let goes = sym c.into_next.ensures ∙ c.in-Some.is in
    let rest = rows_on m script c.args.steps l.done l.state row c.loop-done-test.true is next goes in
    record {
      state = subst (λ (o : Option (List Value)). IfSome o (IsStateOf (shape_in m))) goes c.in_ok-row.ensures.state;
      room = c.in_ok-add.ensures.whole;
      counted = omega (arith, c.in_ok-add.ensures.added.steps, l.invariant.counted);
      noted = noted_on s (specification_of s).initial l.extent c.add.new.self said (rest_rows m script c.args.steps l.done l.state) (rest_rows m script c.args.steps (l.done + 1) next) all rest
          c.in_ok-add.ensures.added l.invariant.noted;
    }

pub returns-clause-found : goal.returns-clause-found
returns-clause-found g c =
    let m = c.args.resolved.now in
    let s = spec_of m.checked.now.spec in
    let script = g.P.Picks.script c.args.script.now in
    let l = c.loop-done in
    let few : l.extent.steps < 2 ^ 32 = omega (arith, l.invariant.counted, l.auto.done-end, c.ranges.steps.fits) in
    noted_at_end s (specification_of s).initial l.extent (rest_rows m script c.args.steps l.done l.state) (rows_of s m.turns script c.args.steps)
    (none_left m script c.args.steps l.done l.state c.loop-done-test.false) few l.invariant.noted
