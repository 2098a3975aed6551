use Rattle.std.proofs.lemmas.Result.{err_from_is_err_and}
use Rattle.asm_explore_random.specs.code.CodedRuns.{plain}
use Rattle.asm_explore_random.proofs.PlainRuns.{asked_plain}
use Rattle.asm_explore_random.proofs.WithoutReport.{of_showing}
use Rattle.asm_explore_random.proofs.random_report.reported.Goals as goal

pub returns-clause-reported : goal.returns-clause-reported
returns-clause-reported g c =
    let asked = c.requires.asked in
    record {
      asked = plain c.args.asked.now;
      is_asked = asked_plain c.all_asked_law.ensures c.args.text.now c.args.conditions.now c.args.settings.now c.args.asked.now asked;
      answer = c.in_ok-answer.answer;
      claims = c.in_ok-answer.ensures.claims;
      counts = c.in_ok-answer.ensures.counts;
      status = c.status_of-status.ensures;
      printed = c.in_ok-text.ensures asked.always.links asked.always.joined;
    }

pub returns-in_err-text-clause-explained : goal.returns-in_err-text-clause-explained
returns-in_err-text-clause-explained g c =
    let p = err_from_is_err_and c.from_residual-in_err-text.result c.from_residual-in_err-text.ensures.1 in
    rw (p.1, p.2) (of_showing c.args.text.now c.args.conditions.now c.args.settings.now c.in_err-text.field-0.0 (plain c.args.asked.now)
    (asked_plain c.all_asked_law.ensures c.args.text.now c.args.conditions.now c.args.settings.now c.args.asked.now c.requires.asked))
