-- Bridge to the code. The states of a signature, by their contents.
use Rattle.std.specs.Prelude.{◌≡◌, ℕ, ◌<◌, List, length, slice_index_or}
use Rattle.asm_state.specs.declared.value.Value.{Value}
use Rattle.asm_state.specs.declared.value.Value.TheVariants.{Undef}
use Rattle.asm_state.specs.Location.{Stray}
use Rattle.asm_state.specs.Signature.{Shape, IsSound, count_of, location_at}

-- a content for each location, by its number, which is undef at a stray one
pub record IsStateOf (shape : Shape) (contents : List Value) : Type 0 where
  pub sound : IsSound shape
  pub whole : length contents ≡ count_of shape
  pub no_stray : (n f : ℕ) → n < count_of shape → location_at shape n ≡ Stray f → slice_index_or contents n Undef ≡ Undef
