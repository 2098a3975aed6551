-- Bridge to the code. Unions of many sets.
--     union_of Vs       the union of the sets of a list
--     united f ns       the union of f n for each n of a list
use Rattle.std.specs.Prelude.{ℕ, List, [], ◌∷◌}
use Rattle.asm_state.specs.Updates.{UpdateSet, none, together}

abbrev pub union_of : List UpdateSet → UpdateSet
union_of [] = none
union_of (V ∷ Vs) = together V (union_of Vs)

abbrev pub united : (ℕ → UpdateSet) → List ℕ → UpdateSet
united f [] = none
united f (n ∷ ns) = together (f n) (united f ns)
