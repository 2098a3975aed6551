use Rattle.std.proofs.Common.{◌∙◌, ap}
use Rattle.asm_explore.specs.ChoicePoints.{choices_of}
use Rattle.asm_explore.specs.RunChoices.{choices_made}
use Rattle.asm_graph.proofs.WayLemmas.{choices_said}
use Rattle.asm_graph.proofs.made_choices.made_choices.Goals as goal

pub returns : goal.returns
returns g c = c.in_ok-made.ensures ∙ ap choices_made c.as_slice.ensures.value ∙ choices_said c.in_ok-asked.asked.items ∙ ap choices_of c.in_ok-asked.ensures
