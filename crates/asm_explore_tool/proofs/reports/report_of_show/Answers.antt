use Rattle.std.proofs.Common.{inl, inr, subst}
use Rattle.std.proofs.lemmas.Result.{err_from_is_err_and}
use Rattle.asm_explore_run.specs.ShowReport.{ExplainsShow, IsShown}
use Rattle.asm_explore_tool.specs.Outputs.{ExplainsShowTask, IsFaultOfShow, IsReportOfShow}
use Rattle.asm_explore_tool.proofs.GivenSources.{given_alike, ungiven_alike}
use Rattle.asm_explore_tool.proofs.ToldReports.{told_err, told_ok}
use Rattle.asm_explore_tool.proofs.reports.report_of_show.Goals as goal

pub returns-clause-report : goal.returns-clause-report
returns-clause-report g c =
    let given = c.in_ok-given.given in
    let settings = c.args.settings.now in
    let contents = g.F.Folder.contents c.args.folder.now in
    let input = g.I.Read.remaining c.args.input in
    let conditions = given.conditions.items in
    let script = given.script.items in
    told_ok c.told.result c.show_report-report.result (IsShown c.as_slice-bytes.result.now c.as_slice-script.result.now c.as_slice-asked.result.now given.run settings)
    (IsReportOfShow contents input settings) c.told.ensures.report c.show_report-report.ensures.reported
    (λ report is. record {
      text = given.text.items;
      conditions = conditions;
      run = given.run;
      script_text = script;
      given = given_alike contents input settings.run _ settings.always.items _ settings.always_files.items given.text.items conditions given.run script c.as_slice.ensures.value c.as_slice-names.ensures.value c.in_ok-given.ensures.given;
      reported = subst (λ cs. IsShown given.text.items script cs given.run settings report) c.as_slice-asked.ensures.value
          (subst (λ s. IsShown given.text.items s c.as_slice-asked.result.now given.run settings report) c.as_slice-script.ensures.value
          (subst (λ t. IsShown t c.as_slice-script.result.now c.as_slice-asked.result.now given.run settings report) c.as_slice-bytes.ensures.value is));
    })

pub returns-clause-explained : goal.returns-clause-explained
returns-clause-explained g c =
    let given = c.in_ok-given.given in
    let settings = c.args.settings.now in
    let contents = g.F.Folder.contents c.args.folder.now in
    let input = g.I.Read.remaining c.args.input in
    let conditions = given.conditions.items in
    let script = given.script.items in
    told_err given.text.items c.told.result c.show_report-report.result (ExplainsShow c.as_slice-bytes.result.now c.as_slice-script.result.now c.as_slice-asked.result.now given.run settings)
    (ExplainsShowTask contents input settings) c.told.ensures.explained c.show_report-report.ensures.explained
    (λ why fault is told. inr (inl (record {
      text = given.text.items;
      conditions = conditions;
      run = given.run;
      script_text = script;
      given = given_alike contents input settings.run _ settings.always.items _ settings.always_files.items given.text.items conditions given.run script c.as_slice.ensures.value c.as_slice-names.ensures.value c.in_ok-given.ensures.given;
      cause = why;
      is = told;
      explained = subst (λ cs. ExplainsShow given.text.items script cs given.run settings why) c.as_slice-asked.ensures.value
          (subst (λ s. ExplainsShow given.text.items s c.as_slice-asked.result.now given.run settings why) c.as_slice-script.ensures.value
          (subst (λ t. ExplainsShow t c.as_slice-script.result.now c.as_slice-asked.result.now given.run settings why) c.as_slice-bytes.ensures.value is));
    })))

pub returns-in_err-given-clause-explained : goal.returns-in_err-given-clause-explained
returns-in_err-given-clause-explained g c =
    let p = err_from_is_err_and c.from_residual.result c.from_residual.ensures.1 in
    let settings = c.args.settings.now in
    let contents = g.F.Folder.contents c.args.folder.now in
    let input = g.I.Read.remaining c.args.input in
    let fault = c.in_err-given.field-0.0 in
    rw (p.1, p.2) (ungiven_alike contents input settings.run _ settings.always.items _ settings.always_files.items fault (IsFaultOfShow contents input settings fault) c.as_slice.ensures.value c.as_slice-names.ensures.value c.in_err-given.ensures.explained)
