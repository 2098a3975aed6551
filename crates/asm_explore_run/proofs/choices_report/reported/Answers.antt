use Rattle.std.proofs.Common.{◌∙◌, ap, subst}
use Rattle.std.specs.Prelude.{◌⊎◌}
use Rattle.asm_reader.specs.ExactLines.{exactly}
use Rattle.asm_reader.specs.ScriptText.{IsScript}
use Rattle.asm_syntax.specs.code.Views.{spec_of}
use Rattle.asm_run.specs.Written.{names_in}
use Rattle.asm_explore.specs.RunChoices.{asked_in, choices_in, lines_forward}
use Rattle.asm_explore_texts.specs.Comments.{lines_of}
use Rattle.asm_explore_report.specs.Commented.{HasNoText}
use Rattle.asm_explore_run.specs.AskedRun.{run_status}
use Rattle.asm_explore_run.specs.ChoicesText.{IsChoicesText}
use Rattle.asm_explore_run.specs.UnmetLines.{unmet_lines}
use Rattle.asm_explore_run.proofs.choices_report.reported.Goals as goal

pub returns-clause-printed : goal.returns-clause-printed
returns-clause-printed c =
    let names = names_in (spec_of c.args.checked.now.spec) in
    let asked = asked_in c.args.run.now in
    let made = lines_forward (choices_in c.args.run.now) in
    let text = c.in_ok-text.text.items in
    let unmet = unmet_lines c.args.script_text.now made in
    subst (λ first. IsChoicesText c.args.text.now names first (lines_of c.args.end.now.because.items) asked made unmet text) c.as_slice-first.ensures.value
    (subst (λ behind. IsChoicesText c.args.text.now names c.as_slice-first.result.now behind asked made unmet text) (ap lines_of c.as_slice-behind.ensures.value)
    (subst (λ last. IsChoicesText c.args.text.now names c.as_slice-first.result.now (lines_of c.as_slice-behind.result.now) asked made last text)
    (ap lines_of c.as_slice-left.ensures.value ∙ c.in_ok-unmet.ensures) c.in_ok-text.ensures.text))

pub returns-clause-says : goal.returns-clause-says
returns-clause-says c = λ apart.
    let made = lines_forward (choices_in c.args.run.now) in
    subst (λ first. IsScript c.in_ok-text.text.items (exactly made) ⊎ HasNoText first made) c.as_slice-first.ensures.value (c.in_ok-text.ensures.says apart)

pub returns-clause-status : goal.returns-clause-status
returns-clause-status c = c.status_of-status.ensures ∙ ap (run_status c.args.end.now.is_fault) (ap lines_of c.as_slice-left.ensures.value ∙ c.in_ok-unmet.ensures)
