-- Bridge to the code. Choices in words, as the code has them.
--     text_said text      what the text of a choice says
use Rattle.asm_explore_table.specs.ChosenTexts as texts
use Rattle.asm_explore_table.specs.declared.chosen_lines.ChosenText.{ChosenText}

abbrev pub text_said : ChosenText → texts.ChosenText
text_said text = record { elements = text.elements.items; given = text.given.items }
