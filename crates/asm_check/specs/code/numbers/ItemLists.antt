-- Bridge to the code. What the items of a specification declare, item by item.
--     universe_lists first items   the values of the universes, if elements are numbered from this
--                                  number on
--     elements_in items            how many elements there are
use Rattle.std.specs.Prelude.{ℕ, ◌+◌, List, [], ◌∷◌, ◌++◌, length}
use Rattle.asm_state.specs.declared.value.Value.{Value}
use Rattle.asm_state.specs.Universe.{elements, numbers_between}
use Rattle.asm_syntax.specs.SourceTree as source
use Rattle.asm_syntax.specs.SourceTree.{Item}

abbrev pub elements_of_item : Item → ℕ
elements_of_item (source.Enum x xs) = length xs
elements_of_item item = 0

abbrev pub elements_in : List Item → ℕ
elements_in [] = 0
elements_in (item ∷ items) = elements_of_item item + elements_in items

abbrev pub universe_of_item : ℕ → Item → List (List Value)
universe_of_item first (source.Enum x xs) = elements first (length xs) ∷ []
universe_of_item first (source.Universe x low high) = numbers_between low.value high.value ∷ []
universe_of_item first item = []

abbrev pub universe_lists : (first : ℕ) → List Item → List (List Value)
universe_lists first [] = []
universe_lists first (item ∷ items) = universe_of_item first item ++ universe_lists (first + elements_of_item item) items
