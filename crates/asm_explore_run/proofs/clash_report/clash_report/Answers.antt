use Rattle.std.proofs.lemmas.Result.{err_from_is_err_and}
use Rattle.asm_explore_run.proofs.WithoutReport.{of_specification}
use Rattle.asm_explore_run.proofs.clash_report.clash_report.Goals as goal

pub report_of-report-requires-clause-accepted : goal.report_of-report-requires-clause-accepted
report_of-report-requires-clause-accepted g c κs inside = c.in_ok-checked.ensures.found

pub returns-in_err-checked-clause-explained : goal.returns-in_err-checked-clause-explained
returns-in_err-checked-clause-explained g c =
    let p = err_from_is_err_and c.from_residual.result c.from_residual.ensures.1 in
    rw (p.1, p.2) (of_specification c.args.text.now c.args.script_text.now c.args.conditions.now c.args.settings.now c.in_err-checked.field-0.0 c.in_err-checked.ensures.refused)
