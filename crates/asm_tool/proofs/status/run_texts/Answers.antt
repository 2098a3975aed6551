use Rattle.std.proofs.Common.{inr, subst}
use Rattle.std.specs.Prelude.{Result}
use Rattle.asm_run.specs.ResultsTell as run
use Rattle.asm_run.specs.declared.end.End.{End}
use Rattle.asm_run.specs.declared.error.RunError.{RunError}
use Rattle.asm_tool.proofs.ToolPromises.{done_kept, finish_failed, run_explains, run_failed}
use Rattle.asm_tool.proofs.StatusTells.{at_end, at_fault}
use Rattle.asm_tool.proofs.status.run_texts.Goals as goal

pub returns-in-Err-clause-told : goal.returns-in-Err-clause-told
returns-in-Err-clause-told g c =
    let l = c.args.limits.now in
    let told = c.results_tell.ensures c.args.text.now c.args.script.now l _ _ c.run-answer.result c.run-answer.ensures.done c.run-answer.ensures.refused in
    rw c.refused_run.ensures (at_fault c.args.text.now c.args.script.now l c.in-Err.error
    (subst (λ (a : Result End RunError). run.ResultTells c.args.text.now c.args.script.now l a) c.in-Err.is told))

pub returns-in-Err-clause-explained : goal.returns-in-Err-clause-explained
returns-in-Err-clause-explained g c =
    rw c.refused_run.ensures
    (run_explains _ _ _ c.finish-finished.ensures.kept c.args.text.now c.args.script.now c.args.limits.now c.requires.range c.in-Err.error c.in-Err.ensures.refused)

pub returns-in-Ok-finished-clause-wrote : goal.returns-in-Ok-finished-clause-wrote
returns-in-Ok-finished-clause-wrote g c =
    done_kept _ _ _ c.in-Ok-finished.ensures.kept c.args.text.now c.args.script.now c.args.limits.now c.in-Ok.end c.in-Ok.ensures.done

pub returns-in-Err-finished-clause-explained : goal.returns-in-Err-finished-clause-explained
returns-in-Err-finished-clause-explained g c =
    inr (done_kept _ _ _ c.in-Err-finished.ensures.kept c.args.text.now c.args.script.now c.args.limits.now c.in-Ok.end c.in-Ok.ensures.done)

pub returns-in-Err-clause-failed : goal.returns-in-Err-clause-failed
returns-in-Err-clause-failed g c = rw c.refused_run.ensures
    (run_failed c.args.text.now c.args.script.now c.args.limits.now _ _ c.requires.range c.in-Err.error c.in-Err.ensures.refused
    c.run-answer.result c.in-Err.is _ _ _ c.run-answer.ensures.failed c.finish-finished.ensures.failed)

pub returns-in-Err-finished-clause-failed : goal.returns-in-Err-finished-clause-failed
returns-in-Err-finished-clause-failed g c = λ is. finish_failed _ _ c.in-Err-finished.ensures.failed

pub returns-in-Ok-finished-clause-told : goal.returns-in-Ok-finished-clause-told
returns-in-Ok-finished-clause-told g c =
    let l = c.args.limits.now in
    let told = c.results_tell.ensures c.args.text.now c.args.script.now l _ _ c.run-answer.result c.run-answer.ensures.done c.run-answer.ensures.refused in
    rw c.kind-end.ensures (at_end c.args.text.now c.args.script.now l c.in-Ok.end
    (subst (λ (a : Result End RunError). run.ResultTells c.args.text.now c.args.script.now l a) c.in-Ok.is told))
