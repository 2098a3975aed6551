-- Bridge to the code. Where the locations of a function are among all of them.
--     first_of shape f                 how many locations are before those of the function: the
--                                      number of its first one
--     argument_position domain vs      where these arguments are among the argument lists of a
--                                      domain, by the position of each in its universe; none, if
--                                      they are outside the domain
use Rattle.std.specs.Prelude.{ℕ, ◌+◌, ◌*◌, List, [], ◌∷◌, length, take, Option, Some, None}
use Rattle.std.specs.List.{flat_map, enumerate_from, position}
use Rattle.asm_state.specs.declared.value.Value.{Value}
use Rattle.asm_state.specs.Operation.{is_same}
use Rattle.asm_state.specs.Signature.{Shape, function_locations}
use Rattle.asm_state.specs.Tables.{Domain, argument_lists}

abbrev pub first_of : Shape → ℕ → ℕ
first_of shape f = length (flat_map (function_locations shape.universes) (take f (enumerate_from 0 shape.functions)))

-- the position at this row and column, if `columns` columns make a row
abbrev pub position_in_grid : (row : Option ℕ) → (columns : ℕ) → (column : Option ℕ) → Option ℕ
position_in_grid (Some i) columns (Some j) = Some (i * columns + j)
position_in_grid (Some i) columns None = None
position_in_grid None columns column = None

-- each value of the first universe has a row, with a column for each argument list of the others
abbrev pub argument_position : Domain → List Value → Option ℕ
argument_position [] [] = Some 0
argument_position (us ∷ domain) (v ∷ vs) = position_in_grid (position (is_same v) us) (length (argument_lists domain)) (argument_position domain vs)
argument_position _ _ = None
