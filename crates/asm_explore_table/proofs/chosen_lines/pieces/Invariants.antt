use Rattle.std.proofs.Common.{◌≡◌, ◌++◌, [], drop, map}
use Rattle.asm_explore_texts.specs.Comments.{lines_of}
use Rattle.asm_explore_table.specs.ChosenTexts.{pieces}
use Rattle.asm_explore_table.specs.code.ChoiceTexts.{text_said}
use Rattle.asm_explore_table.proofs.chosen_lines.pieces.Given as goal

-- with the pieces of the others they are all
abbrev pub invariant-loop-k : goal.invariant-loop-k
invariant-loop-k l = lines_of l.pieces.items ++ pieces l.before (map text_said (drop l.k l.texts)) ≡ pieces [] (map text_said l.texts)
