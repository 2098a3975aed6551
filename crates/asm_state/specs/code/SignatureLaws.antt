-- Bridge to the code. Laws of the numbers of locations, and of the states that lists of
-- contents are.
use Rattle.std.specs.Prelude.{◌≡◌, ℕ, ◌+◌, ◌<◌, List, map, length, slice_index_or, slice_set, IsTrue}
use Rattle.std.specs.declared.cmp.Ordering.TheVariants.{Less}
use Rattle.asm_state.specs.declared.function.FunctionKind.TheVariants.{Controlled}
use Rattle.asm_state.specs.declared.value.Value.{Value}
use Rattle.asm_state.specs.declared.value.Value.TheVariants.{Undef}
use Rattle.asm_state.specs.code.Contents.{IsStateOf}
use Rattle.asm_state.specs.Location.{Location, Proper, Stray, location_cmp, changed}
use Rattle.asm_state.specs.Tables.{Domain, argument_lists, is_in}
use Rattle.asm_state.specs.Updates.{is_proper}
use Rattle.asm_state.specs.Signature.{Shape, IsSound, HasKind, domain_of, locations_by, locations, count_of, location_at, number_at, IsLocationOf, state_of, initial_state}

-- the locations of a signature: those of its controlled functions, with arguments from the domain
-- or alone
abbrev pub IsHeld : Shape → Location → Type 0
IsHeld shape (Proper f vs) = HasKind Controlled shape f × IsTrue (is_in (domain_of shape f) vs)
IsHeld shape (Stray f) = HasKind Controlled shape f

pub record NumberLaws : Type 0 where
  -- the signature has just these locations
  pub is_held : (shape : Shape) (l : Location) → IsLocationOf shape l → IsHeld shape l
  pub has_held : (shape : Shape) (l : Location) → IsHeld shape l → IsLocationOf shape l
  -- a controlled function has one for each argument list of its domain, and the stray one
  pub of_function : (f : ℕ) (domain : Domain) → length (locations_by Controlled f domain) ≡ length (argument_lists domain) + 1
  -- locations rise with their numbers
  pub rise : (shape : Shape) (n m : ℕ) → IsSound shape → n < m → m < count_of shape → location_cmp (location_at shape n) (location_at shape m) ≡ Less
  -- each number below the count is that of one location, and each location of the signature has one
  pub is_location : (shape : Shape) (n : ℕ) → n < count_of shape → IsLocationOf shape (location_at shape n)
  pub number : (shape : Shape) (n : ℕ) → IsSound shape → n < count_of shape → number_at shape (location_at shape n) ≡ n
  pub in_range : (shape : Shape) (l : Location) → IsLocationOf shape l → number_at shape l < count_of shape
  pub location : (shape : Shape) (l : Location) → IsLocationOf shape l → location_at shape (number_at shape l) ≡ l
  -- what has a number below the count is the location with it
  pub below : (shape : Shape) (l : Location) → number_at shape l < count_of shape → location_at shape (number_at shape l) ≡ l

pub record StateLaws : Type 0 where
  -- in a state of the signature each location has the content by its number, which is undef at a
  -- stray one
  pub content_at : (shape : Shape) (contents : List Value) (n : ℕ) → IsStateOf shape contents → n < count_of shape → slice_index_or contents n Undef ≡ state_of shape contents (location_at shape n)
  -- a proper location has the content by its number, and what isn't a proper location of the
  -- signature has none
  pub content : (shape : Shape) (contents : List Value) (l : Location) → IsTrue (is_proper l) → state_of shape contents l ≡ slice_index_or contents (number_at shape l) Undef
  pub stray : (shape : Shape) (contents : List Value) (l : Location) → ¬ (IsTrue (is_proper l)) → state_of shape contents l ≡ Undef
  pub outside : (shape : Shape) (contents : List Value) (l : Location) → length contents ≡ count_of shape → ¬ (IsLocationOf shape l) → state_of shape contents l ≡ Undef
  -- the contents that the initial state has at the locations are a state, which is the initial
  -- state
  pub initial_is_state : (shape : Shape) → IsSound shape → IsStateOf shape (map (initial_state shape) (locations shape))
  pub initial : (shape : Shape) → state_of shape (map (initial_state shape) (locations shape)) ≡ initial_state shape
  -- to set the content of a proper location leaves a state
  pub set_is_state : (shape : Shape) (contents : List Value) (n : ℕ) (v : Value) → IsStateOf shape contents → n < count_of shape → IsTrue (is_proper (location_at shape n)) → IsStateOf shape (slice_set contents n v)
  -- to set the content with the number of a proper location is to change the state there, and
  -- nowhere else
  pub set : (shape : Shape) (contents : List Value) (n : ℕ) (v : Value) → IsSound shape → length contents ≡ count_of shape → n < count_of shape → IsTrue (is_proper (location_at shape n)) → state_of shape (slice_set contents n v) ≡ changed (state_of shape contents) (location_at shape n) v
