use Rattle.std.proofs.Common.{◌+◌, ◌++◌, ◌∙◌, subst, take}
use Rattle.asm_syntax.specs.code.Views.{spec_of}
use Rattle.asm_run.specs.Written.{names_in}
use Rattle.asm_explore.specs.RunChoices.{choices_made}
use Rattle.asm_explore.specs.code.AskedPieces.{all_said}
use Rattle.asm_explore.specs.ChoiceLines.{lines_for}
use Rattle.asm_explore_report.specs.Commented.{said_by}
use Rattle.asm_explore_run.specs.ChoicesText.{AreEntriesOf}
use Rattle.asm_explore_run.proofs.ChoiceEntries.{all_more, step_more, steps_asked}
use Rattle.asm_explore_run.proofs.choice_entries.entries.Goals as goal

pub loop-k-preserved : goal.loop-k-preserved
loop-k-preserved c =
    let names = names_in (spec_of c.args.checked.now.spec) in
    let steps = c.as_slice-steps.result.now in
    let k = c.loop-k.k in
    let low = c.loop-k-test.true in
    let asked = c.index-steps-k.result in
    let new = c.add_entries.new.entries.items in
    record {
      lines = step_more steps k asked (said_by new) low c.index-steps-k.is
          (c.in_ok-add_entries.ensures.lines ∙ (λ j. c.loop-k.invariant.lines j ++ lines_for (k + 1) (choices_made (c.as_slice.ensures.value j))));
      comments = subst (λ xs. AreEntriesOf c.args.text.now names xs new) (all_more steps k asked low c.index-steps-k.is)
          (subst (λ ys. AreEntriesOf c.args.text.now names (steps_asked (take k steps) ++ all_said ys) new) c.as_slice.ensures.value
          (c.in_ok-add_entries.ensures.comments (steps_asked (take k steps)) c.loop-k.invariant.comments));
    }
