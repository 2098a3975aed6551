use Rattle.std.proofs.lemmas.Result.{err_from_is_err_and}
use Rattle.asm_explore_all.proofs.LeftFiles.{of_asking}
use Rattle.asm_explore_all.proofs.all_report.all_report.Goals as goal

pub returns-in_err-asked-clause-explained : goal.returns-in_err-asked-clause-explained
returns-in_err-asked-clause-explained g c =
    let p = err_from_is_err_and c.from_residual.result c.from_residual.ensures.1 in
    rw (p.1, p.2) (of_asking c.args.text.now c.args.conditions.now c.args.settings.now (g.F.NewFiles.made c.args.files.now) c.in_err-asked.field-0.0 c.in_err-asked.ensures.refused)
