use Rattle.std.proofs.Common.{◌+◌, ◌++◌, take, sym, subst, ap, ◌∙◌}
use Rattle.asm_explore.specs.RunChoices.{choices_made, lines_forward}
use Rattle.asm_explore.specs.ChoiceLines.{lines_for}
use Rattle.asm_explore.specs.WrittenScripts.{AreSteps}
use Rattle.asm_explore.proofs.ChoiceLemmas.RunSteps.{lines_counted, step_more, steps_made}
use Rattle.asm_explore.proofs.choices.run_choices.lines_of_run.Goals as goal

pub loop-k-preserved : goal.loop-k-preserved
loop-k-preserved c =
    let l = c.loop-k in
    let steps = c.as_slice-steps.result.now in
    c.in_ok-add_lines.ensures ∙ ap (λ ls. ls ++ lines_for (l.k + 1) (choices_made c.as_slice.result.now)) l.invariant
    ∙ ap (λ asked. lines_forward (steps_made (take l.k steps)) ++ lines_for (l.k + 1) (choices_made asked)) c.as_slice.ensures.value
    ∙ step_more steps l.k c.index-steps-k.result c.loop-k-test.true c.index-steps-k.is

pub returns-clause-steps : goal.returns-clause-steps
returns-clause-steps c = subst AreSteps (sym c.loop-k.invariant) (lines_counted (steps_made (take c.loop-k.k c.as_slice-steps.result.now)))
