-- Definition. Signatures as contracts see them, the locations and their numbers, and the states
-- that lists of contents are.
--     Shape                        the universes, and the functions, in the order of declaration
--     locations shape              all locations, in order: functions as they are declared, of each
--                                  its argument lists and then the stray location
--     count_of shape               how many locations there are
--     location_at shape n          the location with the number n
--     number_at shape l            the number of the location l
--     state_of shape contents      the state whose locations have these contents, by their numbers
--     initial_state shape          the state in which each location has the value of its function's
--                                  table
use Rattle.std.specs.Prelude.{◌≡◌, ℕ, Bool, cond, List, [], ◌∷◌, ◌++◌, map, length, slice_get, slice_index_or, Option, Some, None, All, Contains}
use Rattle.std.specs.List.{flat_map, enumerate_from, position_or_len}
use Rattle.std.specs.Ordering.{eq_by_cmp}
use Rattle.asm_state.specs.declared.function.Function.{Function}
use Rattle.asm_state.specs.declared.function.FunctionKind.{FunctionKind}
use Rattle.asm_state.specs.declared.function.FunctionKind.TheVariants.{Controlled, Static}
use Rattle.asm_state.specs.declared.value.Value.{Value}
use Rattle.asm_state.specs.declared.value.Value.TheVariants.{Undef}
use Rattle.asm_state.specs.Location.{Location, Proper, Stray, State, location_cmp}
use Rattle.asm_state.specs.Tables.{Domain, argument_lists, value_in}
use Rattle.asm_state.specs.Universe.{IsUniverse}
use Rattle.asm_state.specs.Updates.{is_proper}

pub record Shape : Type 0 where
  pub universes : List (List Value)
  pub functions : List Function

-- no universe has a value twice
abbrev pub IsSound : Shape → Type 0
IsSound shape = All IsUniverse shape.universes

-- the domain of these universes, by their numbers
abbrev pub domain_in : List (List Value) → List ℕ → Domain
domain_in universes numbers = map (λ n. slice_index_or universes n []) numbers

abbrev pub locations_by : FunctionKind → (function : ℕ) → Domain → List Location
locations_by Controlled f domain = map (Proper f) (argument_lists domain) ++ Stray f ∷ []
locations_by Static f domain = []

abbrev pub function_locations : List (List Value) → ℕ × Function → List Location
function_locations universes it = locations_by it.1.kind it.0 (domain_in universes it.1.domain)

abbrev pub locations : Shape → List Location
locations shape = flat_map (function_locations shape.universes) (enumerate_from 0 shape.functions)

abbrev pub functions_of : Shape → ℕ
functions_of shape = length shape.functions

abbrev pub count_of : Shape → ℕ
count_of shape = length (locations shape)

abbrev pub location_at : Shape → ℕ → Location
location_at shape n = slice_index_or (locations shape) n (Stray 0)

abbrev pub is_location : Location → Location → Bool
is_location l m = eq_by_cmp location_cmp l m

abbrev pub number_at : Shape → Location → ℕ
number_at shape l = position_or_len (is_location l) (locations shape)

-- the signature has this location
abbrev pub IsLocationOf : Shape → Location → Type 0
IsLocationOf shape l = Contains (locations shape) l

-- stray locations, and those that the signature doesn't have, have no content
abbrev pub state_of : Shape → List Value → State
state_of shape contents l = cond (is_proper l) (slice_index_or contents (number_at shape l) Undef) Undef

-- what a controlled function begins with
abbrev pub initial_value : List (List Value) → Option Function → List Value → Value
initial_value universes None vs = Undef
initial_value universes (Some function) vs = initial_by function.kind
  where
    initial_by : FunctionKind → Value
    initial_by Controlled = value_in (domain_in universes function.domain) function.table vs
    initial_by Static = Undef

-- the state in which each location of a controlled function has the value of the function's table
abbrev pub initial_state : Shape → State
initial_state shape (Proper f vs) = initial_value shape.universes (slice_get shape.functions f) vs
initial_state shape (Stray f) = Undef

-- ---- functions by their numbers

abbrev pub HasKind : FunctionKind → Shape → ℕ → Type 0
HasKind kind shape f = (function : Function) × (slice_get shape.functions f ≡ Some function) × (function.kind ≡ kind)

abbrev pub domain_by : List (List Value) → Option Function → Domain
domain_by universes None = []
domain_by universes (Some function) = domain_in universes function.domain

-- the domain of a function
abbrev pub domain_of : Shape → ℕ → Domain
domain_of shape f = domain_by shape.universes (slice_get shape.functions f)

abbrev pub held_by : List (List Value) → Option Function → List Value → Value
held_by universes None vs = Undef
held_by universes (Some function) vs = value_in (domain_in universes function.domain) function.table vs

-- the value that the table of a function has for arguments, which is undef outside the domain
abbrev pub held_value : Shape → ℕ → List Value → Value
held_value shape f = held_by shape.universes (slice_get shape.functions f)
