use Rattle.std.proofs.Common.{◌≡◌, take}
use Rattle.asm_explore.specs.RunChoices.{lines_forward}
use Rattle.asm_explore.specs.WrittenScripts.{lines_said}
use Rattle.asm_explore.proofs.ChoiceLemmas.RunSteps.{steps_made}
use Rattle.asm_explore.proofs.choices.run_choices.lines_of_run.Given as goal

-- lines for the first steps
abbrev pub invariant-loop-k : goal.invariant-loop-k
invariant-loop-k l = lines_said l.lines.items ≡ lines_forward (steps_made (take l.k l.steps))
