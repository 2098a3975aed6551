-- Free. No report has the status of a fault.
--     of_report        the status of a report
--     of_answer        of help or the version, too
use Rattle.std.proofs.Common.{◌≡◌, ℕ, Bool, true, false, List, [], ◌∷◌, Option, inl, inr, ⊎_elim, arith, subst}
use Rattle.clap.specs.Walk.{Text}
use Rattle.asm_explore.specs.declared.exploration_result.Finding.{Finding}
use Rattle.asm_explore.specs.declared.exploration_result.Finding.TheVariants as finding
use Rattle.asm_random.specs.declared.random_result.RandomFinding.{RandomFinding}
use Rattle.asm_random.specs.declared.random_result.RandomFinding.TheVariants as random
use Rattle.asm_explore_all.specs.AllReport as all
use Rattle.asm_explore_all.specs.MadeFiles.{MadeFile}
use Rattle.asm_explore_random.specs.RandomReport.{random_status}
use Rattle.asm_explore_run.specs.AskedRun.{run_status}
use Rattle.asm_explore_run.specs.RunReport.{IsClashReported}
use Rattle.asm_explore_texts.specs.declared.conditions.Condition.{Condition}
use Rattle.asm_explore_report.specs.declared.report.Report.{Report}
use Rattle.asm_explore_words.specs.declared.settings.RunSettings.{RunSettings}
use Rattle.asm_explore_words.specs.declared.settings.Task.{Task}
use Rattle.asm_explore_words.specs.declared.settings.Task.TheVariants as task
use Rattle.asm_explore_tool.specs.Faults.{IsOfFault}
use Rattle.asm_explore_tool.specs.Outputs.{IsAnswer, IsReportOf}

apart : (status n : ℕ) → status ≡ n → (IsOfFault n → ⊥) → IsOfFault status → ⊥
apart status n is not fault = not (subst IsOfFault is fault)

of_finding : (found : Finding) → IsOfFault (all.status_of found) → ⊥
of_finding finding.Closed f = omega (arith, f.0)
of_finding (finding.SafeTo depth) f = omega (arith, f.0)
of_finding (finding.BadStep bad) f = omega (arith, f.0)
of_finding finding.WrongFirst f = omega (arith, f.0)
of_finding (finding.Unwritten unwritten) f = omega (arith, f.0)
of_finding (finding.TooManyStates safe_to) f = omega (arith, f.1)
of_finding (finding.TooManyOutcomes safe_to crowd) f = omega (arith, f.1)
of_finding (finding.NoMemory safe_to) f = omega (arith, f.1)

of_random : (found : RandomFinding) → IsOfFault (random_status found) → ⊥
of_random random.Nothing f = omega (arith, f.0)
of_random (random.Bad number bad) f = omega (arith, f.0)
of_random random.WrongFirst f = omega (arith, f.0)
of_random (random.Unwritten unwritten) f = omega (arith, f.0)

of_run : (is_fault : Bool) (unmet : List (List ℕ)) → IsOfFault (run_status is_fault unmet) → ⊥
of_run true unmet f = omega (arith, f.0)
of_run false [] f = omega (arith, f.0)
of_run false (line ∷ more) f = omega (arith, f.1)

of_clash : (text script_text : List ℕ) (conditions : List Condition) (settings : RunSettings) (report : Report)
    → IsClashReported text script_text conditions settings report → IsOfFault report.status → ⊥
of_clash text script_text conditions settings report is =
    ⊎_elim (λ broken. apart report.status 1 broken.status (λ f. omega (arith, f.0))) (λ whole. apart report.status _ whole.status (of_run _ [])) is.reported

module _ (contents : Text → Option (List ℕ)) (input : Option (List ℕ)) (before after : Option (List MadeFile)) where
  pub of_report : (asked : Task) (report : Report) → IsReportOf contents input before after asked report → IsOfFault report.status → ⊥
  of_report (task.All settings) report h =
      let is = h.reported.2 in apart report.status _ is.status (of_finding is.found.answer.finding)
  of_report (task.Random settings) report h = apart report.status _ h.1.reported.status (of_random h.1.reported.answer.finding)
  of_report (task.Choices question) report h =
      let is = h.1.reported in apart report.status _ is.status (of_run is.is_fault _)
  of_report (task.Clash question) report h =
      let asked = h.1 in of_clash asked.text asked.script_text asked.conditions asked.run report asked.reported
  of_report (task.Show settings) report h =
      let is = h.1.reported in apart report.status _ is.status (of_run is.end.is_fault _)

  pub of_answer : (IsWritten : List ℕ → Type 0) (words : List Text) (status : ℕ) → IsAnswer contents input IsWritten before after words status → IsOfFault status → ⊥
  of_answer IsWritten words status (inl output) = apart status output.report.status output.status_is (of_report output.task output.report output.reported)
  of_answer IsWritten words status (inr help) = apart status 0 help.0 (λ f. omega (arith, f.0))
