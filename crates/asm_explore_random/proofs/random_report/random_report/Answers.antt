use Rattle.std.proofs.lemmas.Result.{err_from_is_err_and}
use Rattle.asm_explore_random.proofs.WithoutReport.{of_asking}
use Rattle.asm_explore_random.proofs.random_report.random_report.Goals as goal

pub reported-report-requires-clause-asked : goal.reported-report-requires-clause-asked
reported-report-requires-clause-asked g c κs inside = c.in_ok-asked.ensures.found

pub returns-in_err-asked-clause-explained : goal.returns-in_err-asked-clause-explained
returns-in_err-asked-clause-explained g c =
    let p = err_from_is_err_and c.from_residual.result c.from_residual.ensures.1 in
    rw (p.1, p.2) (of_asking c.args.text.now c.args.conditions.now c.args.settings.now c.in_err-asked.field-0.0 c.in_err-asked.ensures.refused)
