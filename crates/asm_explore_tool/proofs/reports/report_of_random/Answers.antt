use Rattle.std.proofs.Common.{◌⊎◌, inl, inr, subst}
use Rattle.std.proofs.lemmas.Option.{IfSome_then}
use Rattle.std.proofs.lemmas.Result.{err_from_is_err_and}
use Rattle.asm_explore_random.specs.RandomReport.{ExplainsRandom, IsRandomReported}
use Rattle.asm_explore_tool.specs.Faults.{IsUnread, source_in}
use Rattle.asm_explore_tool.specs.GivenTexts.{IsRead}
use Rattle.asm_explore_tool.specs.Outputs.{IsFaultOfRandom, IsReportOfRandom}
use Rattle.asm_explore_tool.proofs.ToldReports.{told_err, told_ok}
use Rattle.asm_explore_tool.proofs.reports.report_of_random.Goals as goal

pub returns-in_err-text-clause-explained : goal.returns-in_err-text-clause-explained
returns-in_err-text-clause-explained g c =
    let p = err_from_is_err_and c.from_residual.result c.from_residual.ensures.1 in
    let h = c.in_err-text.ensures.unread in
    rw (p.1, p.2) (inl (IfSome_then (source_in c.in_err-text.field-0.0) h.0 (λ s is. inl is), h.1))

pub returns-in_err-conditions-clause-explained : goal.returns-in_err-conditions-clause-explained
returns-in_err-conditions-clause-explained g c =
    let p = err_from_is_err_and c.from_residual-in_err-conditions.result c.from_residual-in_err-conditions.ensures.1 in
    let h = c.in_err-conditions.ensures.unread in
    rw (p.1, p.2) (inl (IfSome_then (source_in c.in_err-conditions.field-0.0) h.0 (λ s is. inr is), h.1))

pub returns-clause-report : goal.returns-clause-report
returns-clause-report g c =
    let conditions = c.in_ok-conditions.conditions in
    let settings = c.args.settings.now in
    told_ok c.told.result c.random_report-report.result (λ report. IsRandomReported c.as_slice-bytes.result.now conditions settings report)
    (IsReportOfRandom (g.F.Folder.contents c.args.folder.now) (g.I.Read.remaining c.args.input) settings) c.told.ensures.report c.random_report-report.ensures.reported
    (λ report is. record {
      text = c.in_ok-text.text.items;
      is_text = c.in_ok-text.ensures.text;
      conditions = conditions;
      given = c.in_ok-conditions.ensures.given;
      reported = subst (λ t. IsRandomReported t conditions settings report) c.as_slice-bytes.ensures.value is;
    })

pub returns-clause-explained : goal.returns-clause-explained
returns-clause-explained g c =
    let conditions = c.in_ok-conditions.conditions in
    let settings = c.args.settings.now in
    let contents = g.F.Folder.contents c.args.folder.now in
    let input = g.I.Read.remaining c.args.input in
    told_err c.in_ok-text.text.items c.told.result c.random_report-report.result (ExplainsRandom c.as_slice-bytes.result.now conditions settings)
    (λ fault. IsUnread (IsRead settings.spec settings.always_files.items) fault ⊎ IsFaultOfRandom contents input settings fault)
    c.told.ensures.explained c.random_report-report.ensures.explained
    (λ why fault is told. inr (record {
      text = c.in_ok-text.text.items;
      is_text = c.in_ok-text.ensures.text;
      conditions = conditions;
      given = c.in_ok-conditions.ensures.given;
      cause = why;
      is = told;
      explained = subst (λ t. ExplainsRandom t conditions settings why) c.as_slice-bytes.ensures.value is;
    }))
