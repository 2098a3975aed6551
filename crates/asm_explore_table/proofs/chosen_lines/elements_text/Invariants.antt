use Rattle.std.proofs.Common.{◌≡◌, ◌++◌, drop}
use Rattle.asm_syntax.specs.code.Views.{spec_of}
use Rattle.asm_explore_texts.specs.code.TextPlaces.{elements_said}
use Rattle.asm_explore_table.specs.ChosenTexts.{elements_text}
use Rattle.asm_explore_table.proofs.TableLines.{rest_of}
use Rattle.asm_explore_table.proofs.chosen_lines.elements_text.Given as goal

-- with the other elements the text is whole
abbrev pub invariant-loop-k : goal.invariant-loop-k
invariant-loop-k l =
    let s = spec_of l.checked.spec in
    l.text.items ++ rest_of s l.k (elements_said (drop l.k l.variables) (drop l.k l.elements)) ≡ elements_text s (elements_said l.variables l.elements)
