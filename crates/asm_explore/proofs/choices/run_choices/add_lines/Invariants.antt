use Rattle.std.proofs.Common.{◌≡◌, ◌++◌, take}
use Rattle.asm_explore.specs.RunChoices.{choices_made}
use Rattle.asm_explore.specs.ChoiceLines.{lines_for}
use Rattle.asm_explore.specs.WrittenScripts.{lines_said}
use Rattle.asm_explore.proofs.choices.run_choices.add_lines.Given as goal

-- lines for the first choices
abbrev pub invariant-loop-k : goal.invariant-loop-k
invariant-loop-k l = lines_said l.lines.items ≡ lines_said l.fn.lines.items ++ lines_for l.step (choices_made (take l.k l.asked))
