-- Free. Choices in words.
--     mapped         the texts of choices as the code has them
use Rattle.std.proofs.Common.{◌≡◌, List, [], ◌∷◌, map, refl, ap}
use Rattle.asm_syntax.specs.SourceTree.{Spec}
use Rattle.asm_explore.specs.RunChoices.{asked_said}
use Rattle.asm_explore.specs.declared.choices.choice_point.ChoicePoint.{ChoicePoint}
use Rattle.asm_explore_table.specs.ChosenTexts.{chosen_text}

pub mapped : (s : Spec) (asked : List ChoicePoint) → map (λ one. chosen_text s (asked_said one)) asked ≡ map (chosen_text s) (map asked_said asked)
mapped s [] = refl
mapped s (one ∷ asked) = ap (λ more. chosen_text s (asked_said one) ∷ more) (mapped s asked)
