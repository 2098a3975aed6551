-- Bridge to the code. The places that the code comes to along a path.
--     branch_said branch      the rule that may be left out
--     elements_said           elements with their variables
--     place_with R place      the place, with another rule
--     place_said place        the place
--     AreEven place           it has as many variables as elements
use Rattle.std.specs.Prelude.{◌≡◌, ℕ, List, [], ◌∷◌, length, Option, Some, None}
use Rattle.std.specs.Borrow.{Bor}
use Rattle.std.proofs.Common.{Box, Global}
use Rattle.asm_state.specs.declared.value.Value.{Value}
use Rattle.asm_syntax.specs.SourceTree as source
use Rattle.asm_syntax.specs.code.Views.{rule_of}
use Rattle.asm_syntax.specs.declared.name.Name.{Name}
use Rattle.asm_syntax.specs.declared.rule.Rule.{Rule}
use Rattle.asm_explore_texts.specs.Places.{Place}
use Rattle.asm_explore_texts.specs.declared.rule_in_text.PlaceInText.{PlaceInText}

abbrev pub branch_said : Option (Box Rule Global) → source.Branch
branch_said None = source.left_out
branch_said (Some P) = source.written (rule_of P.value)

abbrev pub elements_said : List (Bor Name) → List Value → List (List ℕ × Value)
elements_said [] vs = []
elements_said (x ∷ xs) [] = []
elements_said (x ∷ xs) (v ∷ vs) = (x.now.text, v) ∷ elements_said xs vs

abbrev pub place_with : source.Rule → PlaceInText → Place
place_with R place = record { rule = R; in_turn = place.is_turn; elements = elements_said place.variables.items place.elements.items }

abbrev pub place_said : PlaceInText → Place
place_said place = place_with (rule_of place.rule.now) place

abbrev pub AreEven : PlaceInText → Type 0
AreEven place = length place.variables.items ≡ length place.elements.items
