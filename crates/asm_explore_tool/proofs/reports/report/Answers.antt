use Rattle.std.proofs.lemmas.Result.{IfErr-weaker, IfOk-weaker}
use Rattle.asm_explore_tool.proofs.NoFiles.{makes_none}
use Rattle.asm_explore_tool.proofs.reports.report.Goals as goal

pub returns-in-Random-clause-report : goal.returns-in-Random-clause-report
returns-in-Random-clause-report g c =
    rw c.in-Random.is (IfOk-weaker c.report_of_random.result _ _ (λ report is. (makes_none _, is)) c.report_of_random.ensures.report)

pub returns-in-Choices-clause-report : goal.returns-in-Choices-clause-report
returns-in-Choices-clause-report g c =
    rw c.in-Choices.is (IfOk-weaker c.report_of_choices.result _ _ (λ report is. (makes_none _, is)) c.report_of_choices.ensures.report)

pub returns-in-Clash-clause-report : goal.returns-in-Clash-clause-report
returns-in-Clash-clause-report g c =
    rw c.in-Clash.is (IfOk-weaker c.report_of_clash.result _ _ (λ report is. (makes_none _, is)) c.report_of_clash.ensures.report)

pub returns-in-All-clause-explained : goal.returns-in-All-clause-explained
returns-in-All-clause-explained g c = rw c.in-All.is c.report_of_all.ensures.explained

pub returns-in-Random-clause-explained : goal.returns-in-Random-clause-explained
returns-in-Random-clause-explained g c =
    rw c.in-Random.is (IfErr-weaker c.report_of_random.result _ _ (λ fault is. (makes_none _, is)) c.report_of_random.ensures.explained)

pub returns-in-Choices-clause-explained : goal.returns-in-Choices-clause-explained
returns-in-Choices-clause-explained g c =
    rw c.in-Choices.is (IfErr-weaker c.report_of_choices.result _ _ (λ fault is. (makes_none _, is)) c.report_of_choices.ensures.explained)

pub returns-in-Clash-clause-explained : goal.returns-in-Clash-clause-explained
returns-in-Clash-clause-explained g c =
    rw c.in-Clash.is (IfErr-weaker c.report_of_clash.result _ _ (λ fault is. (makes_none _, is)) c.report_of_clash.ensures.explained)

pub returns-in-Show-clause-report : goal.returns-in-Show-clause-report
returns-in-Show-clause-report g c =
    rw c.in-Show.is (IfOk-weaker c.report_of_show.result _ _ (λ report is. (makes_none _, is)) c.report_of_show.ensures.report)

pub returns-in-Show-clause-explained : goal.returns-in-Show-clause-explained
returns-in-Show-clause-explained g c =
    rw c.in-Show.is (IfErr-weaker c.report_of_show.result _ _ (λ fault is. (makes_none _, is)) c.report_of_show.ensures.explained)
