-- Definition. The limits of a signature.
use Rattle.std.specs.Prelude.{◌≤◌, ◌<◌, ℕ, List, length, All, sum_by}
use Rattle.asm_state.specs.declared.signature_limits.TheConstants.{MAX_UNIVERSES, MAX_VALUES, MAX_FUNCTIONS, MAX_ARGUMENTS, MAX_LOCATIONS, MAX_STATIC_LISTS}
use Rattle.asm_state.specs.declared.function.Function.{Function}
use Rattle.asm_state.specs.declared.function.FunctionKind.{FunctionKind}
use Rattle.asm_state.specs.declared.function.FunctionKind.TheVariants.{Controlled, Static}
use Rattle.asm_state.specs.declared.value.Value.{Value}
use Rattle.asm_state.specs.Signature.{Shape, domain_in, count_of}
use Rattle.asm_state.specs.Tables.{argument_lists, IsTableOf}

-- not too many universes, and each exists
pub record IsDomainOf (universes : List (List Value)) (domain : List ℕ) : Type 0 where
  pub few : length domain ≤ MAX_ARGUMENTS
  pub known : All (λ n. n < length universes) domain

-- how many argument lists a static function has
abbrev pub static_lists_by : FunctionKind → ℕ → ℕ
static_lists_by Controlled n = 0
static_lists_by Static n = n

abbrev pub static_lists : List (List Value) → Function → ℕ
static_lists universes f = static_lists_by f.kind (length (argument_lists (domain_in universes f.domain)))

abbrev pub static_count : Shape → ℕ
static_count shape = sum_by (static_lists shape.universes) shape.functions

pub record Fits (shape : Shape) : Type 0 where
  pub few_universes : length shape.universes ≤ MAX_UNIVERSES
  pub few_values : All (λ (vs : List Value). length vs ≤ MAX_VALUES) shape.universes
  pub few_functions : length shape.functions ≤ MAX_FUNCTIONS
  pub domains : All (λ (f : Function). IsDomainOf shape.universes f.domain) shape.functions
  pub few_locations : count_of shape ≤ MAX_LOCATIONS
  pub few_static_lists : static_count shape ≤ MAX_STATIC_LISTS
  pub tables : All (λ (f : Function). IsTableOf (domain_in shape.universes f.domain) f.table) shape.functions
