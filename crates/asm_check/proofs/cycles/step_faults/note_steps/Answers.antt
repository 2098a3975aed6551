use Rattle.std.proofs.Common.{length, true, false, ◌+◌, ◌≤◌, refl, sym, subst, arith}
use Rattle.asm_syntax.specs.code.Views.{spec_of}
use Rattle.asm_check.specs.declared.least_fault.LeastFault.{LeastFault}
use Rattle.asm_check.specs.Errors.{found_of}
use Rattle.asm_check.specs.code.cycles.Graph.{step_lists}
use Rattle.asm_check.specs.code.LeastFaults.{IsLeastWith}
use Rattle.asm_check.specs.code.cycles.StepFaults.{IsStepFault}
use Rattle.asm_check.specs.code.cycles.StepTables.{IsFaultOf, IsFaultBelow}
use Rattle.asm_check.proofs.cycles.step_faults.note_steps.Goals as goal
use Rattle.asm_check.proofs.CycleLemmas.CycleNotes.{none_below, one_more, flag_at, all_below, below_all, are_steps, none_there_so}
use Rattle.asm_check.proofs.CycleLemmas.SearchesInTurn.{soonest_same}
use Rattle.asm_check.proofs.CycleLemmas.StepFaults.{sound, complete}
use Rattle.asm_check.proofs.NameLemmas.EachNameOnce.{names_apart, entry_declared}
use Rattle.asm_check.proofs.cycles.step_faults.note_steps.Goals.{in-Some+in_ok-note_node, in_default}

pub loop-node-init : goal.loop-node-init
loop-node-init c = none_below (step_lists c.args.steps.now) c.args.names.now (found_of c.args.least.now.found)

pub note_node-requires-clause-reaching : goal.note_node-requires-clause-reaching
note_node-requires-clause-reaching c = λ b.
    let l = c.requires.len in
    let d = c.len-node-end.ensures.len in
    let t = c.loop-node-test.true in
    c.in_ok-reaching.ensures.reach c.loop-node.node
    (flag_at c.as_slice-reaching.result.now c.in_ok-reaching.reaching.items c.loop-node.node (length c.args.steps.now) true c.as_slice-reaching.ensures.value c.in_ok-reaching.ensures.len (omega (arith, l, d, t)) b)

pub note_node-requires-clause-settled : goal.note_node-requires-clause-settled
note_node-requires-clause-settled c = λ b.
    let l = c.requires.len in
    let d = c.len-node-end.ensures.len in
    let t = c.loop-node-test.true in
    c.in_ok-reaching.ensures.settled c.loop-node.node
    (flag_at c.as_slice-reaching.result.now c.in_ok-reaching.reaching.items c.loop-node.node (length c.args.steps.now) false c.as_slice-reaching.ensures.value c.in_ok-reaching.ensures.len (omega (arith, l, d, t)) b)

pub note_node-requires-clause-long : goal.note_node-requires-clause-long
note_node-requires-clause-long c = λ b.
    let l = c.requires.len in
    let d = c.len-node-end.ensures.len in
    let t = c.loop-node-test.true in
    c.in_ok-long.ensures.ways c.loop-node.node
    (flag_at c.as_slice-long.result.now c.in_ok-long.long.items c.loop-node.node (length c.args.steps.now) true c.as_slice-long.ensures.value c.in_ok-long.ensures.len (omega (arith, l, d, t)) b)

pub note_node-requires-clause-short : goal.note_node-requires-clause-short
note_node-requires-clause-short c = λ b.
    let l = c.requires.len in
    let d = c.len-node-end.ensures.len in
    let t = c.loop-node-test.true in
    c.in_ok-long.ensures.none c.loop-node.node
    (flag_at c.as_slice-long.result.now c.in_ok-long.long.items c.loop-node.node (length c.args.steps.now) false c.as_slice-long.ensures.value c.in_ok-long.ensures.len (omega (arith, l, d, t)) b)

pub loop-node-preserved : goal.loop-node-preserved
loop-node-preserved c =
    elim c.match-get_index.branch [
      | in-Some+in_ok-note_node w ↦
          one_more (step_lists c.args.steps.now) c.args.names.now c.loop-node.node (w.in-Some.field-0-0.now, w.in-Some.declared.now) (sym w.in-Some.ensures.entry)
          (found_of c.args.least.now.found) (found_of c.loop-node.least.found) (found_of c.match-get_index.least.found) c.loop-node.invariant
          (subst (λ (it : LeastFault). IsLeastWith (IsFaultOf (step_lists c.args.steps.now) c.loop-node.node w.in-Some.declared.now) (found_of c.loop-node.least.found) (found_of it.found)) (sym w.least-is) w.in_ok-note_node.ensures)
      | in_default w ↦
          let d = c.len-node-end.ensures.len in
          let t = c.loop-node-test.true in
          none_there_so c.args.names.now c.loop-node.node (omega (arith, d, t)) w.in_default.ensures.entry
          (IsLeastWith (IsFaultBelow (step_lists c.args.steps.now) c.args.names.now (c.loop-node.node + 1)) (found_of c.args.least.now.found) (found_of c.match-get_index.least.found))
    ]

pub returns : goal.returns
returns c =
    let table = c.requires.table in
    let entries = c.args.names.now in
    let d = c.len-node-end.ensures.len in
    let t = c.loop-node-test.false in
    let far : length c.args.names.now ≤ c.loop-node.node = omega (arith, d, t) in
    let are = are_steps (spec_of c.args.spec.now) c.args.names.now c.args.steps.now c.args.steps.now refl c.requires.len c.requires.graph c.requires.steps in
    soonest_same (IsFaultBelow (step_lists c.args.steps.now) c.args.names.now c.loop-node.node) (IsStepFault (spec_of c.args.spec.now))
    (λ at number p. sound (spec_of c.args.spec.now) c.args.names.now (step_lists c.args.steps.now) are (names_apart (spec_of c.args.spec.now) c.args.names.now table) table
    (entry_declared (spec_of c.args.spec.now) c.args.names.now table) at number (all_below (step_lists c.args.steps.now) c.args.names.now c.loop-node.node at number p))
    (λ at number p. below_all (step_lists c.args.steps.now) c.args.names.now c.loop-node.node far at number
    (complete (spec_of c.args.spec.now) c.args.names.now (step_lists c.args.steps.now) are (names_apart (spec_of c.args.spec.now) c.args.names.now table) table
    (entry_declared (spec_of c.args.spec.now) c.args.names.now table) at number p))
    (found_of c.args.least.now.found) (found_of c.loop-node.least.found) c.loop-node.invariant
