-- Bridge to the code. Laws of a function's locations, by the number of the first one and
-- the positions of arguments.
use Rattle.std.specs.Prelude.{◌≡◌, ℕ, ◌+◌, ◌<◌, ◌≤◌, List, [], ◌∷◌, length, slice_get, Some, None}
use Rattle.std.specs.List.{position}
use Rattle.asm_state.specs.declared.function.FunctionKind.TheVariants.{Controlled}
use Rattle.asm_state.specs.declared.value.Value.{Value}
use Rattle.asm_state.specs.code.FirstLocations.{first_of, position_in_grid, argument_position}
use Rattle.asm_state.specs.Location.{Proper, Stray}
use Rattle.asm_state.specs.Operation.{is_same}
use Rattle.asm_state.specs.Signature.{Shape, IsSound, HasKind, domain_of, count_of, location_at, number_at}
use Rattle.asm_state.specs.Tables.{Domain, argument_lists, location_in}

pub record FirstLocationLaws : Type 0 where
  -- arguments with a position are the list there, and the function has a proper location with them;
  -- with others it has the stray one
  pub list : (domain : Domain) (vs : List Value) (k : ℕ) → argument_position domain vs ≡ Some k → slice_get (argument_lists domain) k ≡ Some vs
  pub inside : (f : ℕ) (domain : Domain) (vs : List Value) (k : ℕ) → argument_position domain vs ≡ Some k → location_in f domain vs ≡ Proper f vs
  pub outside : (f : ℕ) (domain : Domain) (vs : List Value) → argument_position domain vs ≡ None → location_in f domain vs ≡ Stray f
  -- the position of one argument is that in its universe, and two have a row and a column
  pub of_one : (us : List Value) (v : Value) → argument_position (us ∷ []) (v ∷ []) ≡ position (is_same v) us
  pub of_two : (us ws : List Value) (v w : Value) → argument_position (us ∷ ws ∷ []) (v ∷ w ∷ []) ≡ position_in_grid (position (is_same v) us) (length ws) (position (is_same w) ws)
  -- after the first location of a function come those with its argument lists, in order, and then
  -- the stray one
  pub proper : (shape : Shape) (f k : ℕ) (vs : List Value) → HasKind Controlled shape f → slice_get (argument_lists (domain_of shape f)) k ≡ Some vs → location_at shape (first_of shape f + k) ≡ Proper f vs
  pub stray : (shape : Shape) (f : ℕ) → HasKind Controlled shape f → location_at shape (first_of shape f + length (argument_lists (domain_of shape f))) ≡ Stray f
  pub in_range : (shape : Shape) (f k : ℕ) → HasKind Controlled shape f → k ≤ length (argument_lists (domain_of shape f)) → first_of shape f + k < count_of shape
  -- so these are their numbers
  pub number : (shape : Shape) (f k : ℕ) (vs : List Value) → IsSound shape → HasKind Controlled shape f → slice_get (argument_lists (domain_of shape f)) k ≡ Some vs → number_at shape (Proper f vs) ≡ first_of shape f + k
  pub stray_number : (shape : Shape) (f : ℕ) → IsSound shape → HasKind Controlled shape f → number_at shape (Stray f) ≡ first_of shape f + length (argument_lists (domain_of shape f))
