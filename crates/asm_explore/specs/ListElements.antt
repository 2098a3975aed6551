-- Definition. What holds of the elements of a list.
--     Each P xs       it holds of each
--     AnyOf P xs      it holds of some
use Rattle.std.specs.Prelude.{List, [], ◌∷◌, ◌⊎◌}

abbrev pub Each : {X : Type 0} → (X → Type 0) → List X → Type 0
Each P [] = Unit {0}
Each P (x ∷ xs) = P x × Each P xs

abbrev pub AnyOf : {X : Type 0} → (X → Type 0) → List X → Type 0
AnyOf P [] = ⊥
AnyOf P (x ∷ xs) = P x ⊎ AnyOf P xs
