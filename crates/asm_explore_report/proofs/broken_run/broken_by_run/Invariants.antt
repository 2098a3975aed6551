use Rattle.std.proofs.Common.{List}
use Rattle.asm_state.specs.declared.operation.Op.{Op}
use Rattle.asm_state.specs.Signature.{state_of}
use Rattle.asm_state.specs.code.Contents.{IsStateOf}
use Rattle.asm_syntax.specs.code.Views.{spec_of}
use Rattle.asm_syntax.specs.declared.term.Term.{Term}
use Rattle.asm_meaning.specs.Run.{IsAfter}
use Rattle.asm_step.specs.code.Steps.{shape_in, specification_in}
use Rattle.asm_explore_texts.specs.code.CodedConditions.{IsJoined, terms_in}
use Rattle.asm_explore_report.specs.BrokenRuns.{HoldBefore}
use Rattle.asm_explore_report.proofs.broken_run.broken_by_run.Given as goal

-- the state after the steps that are done, before which the conditions are true
abbrev pub invariant-loop-done : goal.invariant-loop-done
invariant-loop-done g l =
    let m = l.resolved in
    let script = g.P.Picks.script l.script in
    record {
      state : IsStateOf (shape_in m) l.state;
      after : IsAfter (specification_in m) m.turns script l.done (state_of (shape_in m) l.state);
      held : (links : List (Op × Term)) → IsJoined links l.always → HoldBefore (spec_of m.checked.now.spec) (terms_in links) m.turns script l.done;
    }
