-- Bridge to the code. Where a signature keeps the values of functions: of controlled ones by the
-- numbers of their locations, and of static ones in a list of their own, function after function.
--     extents            the position of a function's first value, and how many argument lists it
--                        has
--     owners             the function of each location
use Rattle.std.specs.Prelude.{◌≡◌, ℕ, ◌<◌, List, [], ◌∷◌, ◌++◌, map, length, take, slice_index_or}
use Rattle.std.specs.List.{flat_map}
use Rattle.asm_state.specs.declared.function.Function.{Function}
use Rattle.asm_state.specs.declared.function.FunctionKind.{FunctionKind}
use Rattle.asm_state.specs.declared.function.FunctionKind.TheVariants.{Controlled, Static}
use Rattle.asm_state.specs.declared.layout.Stretch.{Stretch}
use Rattle.asm_state.specs.declared.layout.Layout.{Layout}
use Rattle.asm_state.specs.declared.value.Value.{Value}
use Rattle.asm_state.specs.declared.value.Value.TheVariants.{Undef}
use Rattle.asm_state.specs.code.FirstLocations.{first_of}
use Rattle.asm_state.specs.SignatureLimits.{Fits}
use Rattle.asm_state.specs.Location.{function_of}
use Rattle.asm_state.specs.Signature.{Shape, IsSound, domain_in, function_locations, locations, initial_state}
use Rattle.asm_state.specs.Tables.{argument_lists, table_value}

-- the values of a static function, for its argument lists in order
abbrev pub static_values_by : FunctionKind → List Value → List Value
static_values_by Controlled vs = []
static_values_by Static vs = vs

abbrev pub static_values : List (List Value) → Function → List Value
static_values universes f = static_values_by f.kind (map (table_value f.table) (argument_lists (domain_in universes f.domain)))

-- how many locations, and how many values of static functions, are before those of a function
abbrev pub start_by : FunctionKind → Shape → ℕ → ℕ
start_by Controlled shape f = first_of shape f
start_by Static shape f = length (flat_map (static_values shape.universes) (take f shape.functions))

-- the initial contents of a function's locations
abbrev pub initial_values_by : FunctionKind → List Value → List Value
initial_values_by Controlled vs = vs ++ Undef ∷ []
initial_values_by Static vs = []

abbrev pub initial_values : List (List Value) → Function → List Value
initial_values universes f = initial_values_by f.kind (map (table_value f.table) (argument_lists (domain_in universes f.domain)))

abbrev pub next_start : FunctionKind → Layout → ℕ
next_start Controlled layout = length layout.initial.items
next_start Static layout = length layout.given.items

-- the layout with one function more, which has the number f
pub record IsNext (universes : List (List Value)) (f : ℕ) (function : Function) (old new : Layout) : Type 0 where
  pub extents : new.extents.items ≡ old.extents.items ++ record { start = next_start function.kind old; lists = length (argument_lists (domain_in universes function.domain)) } ∷ []
  pub owners : new.owners.items ≡ old.owners.items ++ map function_of (function_locations universes (f, function))
  pub initial : new.initial.items ≡ old.initial.items ++ initial_values universes function
  pub given : new.given.items ≡ old.given.items ++ static_values universes function

pub record IsStretchOf (shape : Shape) (f : ℕ) (function : Function) (extent : Stretch) : Type 0 where
  pub start : extent.start ≡ start_by function.kind shape f
  pub lists : extent.lists ≡ length (argument_lists (domain_in shape.universes function.domain))

pub record IsLayoutOf (shape : Shape) (layout : Layout) : Type 0 where
  pub sound : IsSound shape
  pub fits : Fits shape
  pub beside : length layout.extents.items ≡ length shape.functions
  pub extents : (f : ℕ) (function : Function) (d : Stretch) → f < length shape.functions → IsStretchOf shape f (slice_index_or shape.functions f function) (slice_index_or layout.extents.items f d)
  pub owners : layout.owners.items ≡ map function_of (locations shape)
  pub initial : layout.initial.items ≡ map (initial_state shape) (locations shape)
  pub given : layout.given.items ≡ flat_map (static_values shape.universes) shape.functions
