-- Law. The bounds of values and of signatures, given by the constants of the code.
use Rattle.std.specs.Prelude.{◌≡◌, ◌↔◌, ◌<◌, ◌≤◌, ℕ, ℤ, pos, ◌≤ℤ◌, neg_ℤ, List, length, All}
use Rattle.asm_state.specs.declared.element.Element.{Element}
use Rattle.asm_state.specs.declared.element.TheConstants.{MAX_ELEMENTS}
use Rattle.asm_state.specs.declared.function.Function.{Function}
use Rattle.asm_state.specs.declared.signature_limits.TheConstants.{MAX_UNIVERSES, MAX_FUNCTIONS, MAX_ARGUMENTS, MAX_LOCATIONS, MAX_STATIC_LISTS, MAX_VALUES}
use Rattle.asm_state.specs.declared.number.Number.{Number}
use Rattle.asm_state.specs.declared.number.TheConstants.{MAX_NUMBER}
use Rattle.asm_state.specs.declared.value.Value.{Value}
use Rattle.asm_state.specs.SignatureLimits.{Fits, static_count}
use Rattle.asm_state.specs.Signature.{Shape, domain_in, count_of}
use Rattle.asm_state.specs.Tables.{IsTableOf}

-- the functions and universes of a signature are no more than the constants say, and its tables are
-- tables
pub record IsWithinBounds (shape : Shape) : Type 0 where
  pub universes : length shape.universes ≤ MAX_UNIVERSES
  pub values : All (λ (vs : List Value). length vs ≤ MAX_VALUES) shape.universes
  pub functions : length shape.functions ≤ MAX_FUNCTIONS
  pub domains : All (λ (f : Function). length f.domain ≤ MAX_ARGUMENTS) shape.functions
  pub known : All (λ (f : Function). All (λ n. n < length shape.universes) f.domain) shape.functions
  pub locations : count_of shape ≤ MAX_LOCATIONS
  pub static_lists : static_count shape ≤ MAX_STATIC_LISTS
  pub tables : All (λ (f : Function). IsTableOf (domain_in shape.universes f.domain) f.table) shape.functions

pub record BoundLaws : Type 0 where
  pub greatest : MAX_NUMBER ≡ pos 100_000_000_000_000_000
  pub elements : MAX_ELEMENTS ≡ 262_144
  pub values : MAX_VALUES ≡ 4096
  pub universes : MAX_UNIVERSES ≡ 64
  pub functions : MAX_FUNCTIONS ≡ 256
  pub domain : MAX_ARGUMENTS ≡ 4
  pub locations : MAX_LOCATIONS ≡ 65_536
  pub static_lists : MAX_STATIC_LISTS ≡ 16_384
  -- signatures are of just the functions and universes within these bounds
  pub signatures : (shape : Shape) → Fits shape ↔ IsWithinBounds shape
  -- there is a number for just the values from the negative of the largest to the largest, and an
  -- element for just the indices below the count of elements
  pub numbers : (z : ℤ) → ((n : Number) × (n.value ≡ z)) ↔ (neg_ℤ MAX_NUMBER ≤ℤ z) × (z ≤ℤ MAX_NUMBER)
  pub indices : (k : ℕ) → ((e : Element) × (e.index ≡ k)) ↔ (k < MAX_ELEMENTS)
