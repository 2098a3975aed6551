use Rattle.std.proofs.Common.{◌≡◌, map, take}
use Rattle.asm_syntax.specs.code.Views.{spec_of}
use Rattle.asm_explore.specs.RunChoices.{asked_said}
use Rattle.asm_explore_table.specs.ChosenTexts.{chosen_text}
use Rattle.asm_explore_table.specs.code.ChoiceTexts.{text_said}
use Rattle.asm_explore_table.proofs.chosen_lines.chosen_texts.Given as goal

-- the texts of the first choices
abbrev pub invariant-loop-k : goal.invariant-loop-k
invariant-loop-k l = map text_said l.texts.items ≡ map (λ one. chosen_text (spec_of l.checked.spec) (asked_said one)) (take l.k l.asked)
