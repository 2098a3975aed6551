use Rattle.std.proofs.lemmas.Result.{err_from_is_err_and}
use Rattle.asm_explore.specs.RunChoices.{asked_in, choices_in}
use Rattle.asm_syntax.specs.code.Views.{spec_of}
use Rattle.asm_explore_texts.specs.Comments.{lines_of}
use Rattle.asm_explore_run.proofs.WithoutReport.{of_script}
use Rattle.asm_explore_run.proofs.choices_report.report_of.Goals as goal

pub returns-clause-reported : goal.returns-clause-reported
returns-clause-reported g c =
    let end = c.in_ok-end.end in
    let ended = c.in_ok-end.ensures.ended in
    let run = c.in_ok-run.run' in
    let made = c.in_ok-run.ensures in
    record {
      tree = spec_of c.args.checked.now.spec;
      accepted = c.requires.accepted;
      script = c.in_ok-script.script;
      spelled = c.in_ok-script.ensures.found;
      terms = ended.0;
      are_terms = ended.1;
      first = end.first.items;
      because = lines_of end.because.items;
      limit = end.steps;
      is_fault = end.is_fault;
      is_end = ended.2;
      steps = choices_in run;
      choices = made.choices;
      asked = asked_in run;
      are_asked = made.asked;
      again = made.again;
      printed = c.in_ok-report.ensures.printed;
      says = c.in_ok-report.ensures.says made.again.unrepeated;
      status = c.in_ok-report.ensures.status;
    }

pub returns-in_err-script-clause-explained : goal.returns-in_err-script-clause-explained
returns-in_err-script-clause-explained g c =
    let p = err_from_is_err_and c.from_residual.result c.from_residual.ensures.1 in
    rw (p.1, p.2) (of_script c.args.text.now c.args.script_text.now c.args.conditions.now c.args.settings.now (spec_of c.args.checked.now.spec) c.requires.accepted c.in_err-script.field-0.0 c.in_err-script.ensures.refused)
