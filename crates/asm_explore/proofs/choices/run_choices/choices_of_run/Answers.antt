use Rattle.std.proofs.Common.{◌∙◌, sym, ap, map}
use Rattle.asm_syntax.specs.code.Views.{spec_of}
use Rattle.asm_meaning.specs.Declarations.{specification_of}
use Rattle.asm_explore.specs.ChoicePoints.{choices_of}
use Rattle.asm_explore.proofs.ChoiceLemmas.RunSteps.{run_choices}
use Rattle.asm_explore.proofs.ChoiceLemmas.SameRun.{choices_are, makes_the_run}
use Rattle.asm_explore.proofs.choices.run_choices.choices_of_run.Goals as goal

pub returns-in-Ok-clause-choices : goal.returns-in-Ok-clause-choices
returns-in-Ok-clause-choices g c =
    let a = c.args in
    sym (run_choices c.in-Ok.choices) ∙ ap (map choices_of) c.in-Ok.ensures
    ∙ choices_are (specification_of (spec_of a.checked.now.spec)) a.turns (g.P.Picks.script a.script.now) a.steps

pub returns-in-Ok-clause-again : goal.returns-in-Ok-clause-again
returns-in-Ok-clause-again g c =
    let a = c.args in
    let specification = specification_of (spec_of a.checked.now.spec) in
    makes_the_run specification a.turns (g.P.Picks.script a.script.now) a.steps _
    (sym (run_choices c.in-Ok.choices) ∙ ap (map choices_of) c.in-Ok.ensures ∙ choices_are specification a.turns (g.P.Picks.script a.script.now) a.steps)
