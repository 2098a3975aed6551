-- Bridge to the code. Entries as a set holds them: a list, and the position of each location.
--     put es n b               the entries with these bounds at location n: in its place, or else
--                              at the end
--     HasOneValue r            the range has no two values
--     IsAt es i n              location n is at position i
--     HavePositions es p at    if p, then `at` gives each location's position in the entries
--     AreIndexed es p at       and no location is there twice
use Rattle.std.specs.Prelude.{◌≡◌, ℕ, ◌<◌, Bool, true, nat_eq, if◌then◌else◌, [], ◌∷◌, Option, Some, None, length, slice_index_or}
use Rattle.std.specs.List.{IsDistinct}
use Rattle.std.specs.Map.{keys_of}
use Rattle.asm_state.specs.declared.value.Value.{Value}
use Rattle.asm_state.specs.Updates.{Range}
use Rattle.asm_updates.specs.code.SummaryRanges.{NamedRanges}

pub record IndexedRanges : Type 0 where
  pub entries : NamedRanges
  pub spare : ℕ

abbrev pub put : NamedRanges → ℕ → Value × Value → NamedRanges
put [] n b = (n, b) ∷ []
put (e ∷ es) n b = if nat_eq n e.0 then (e.0, b) ∷ es else e ∷ put es n b

abbrev pub HasOneValue : Option Range → Type 0
HasOneValue None = Unit {0}
HasOneValue (Some r) = r.least ≡ r.greatest

abbrev pub IsAt : NamedRanges → ℕ → ℕ → Type 0
IsAt es i n = (i < length es) × (slice_index_or (keys_of es) i 0 ≡ n)

abbrev pub HavePositions : NamedRanges → Bool → (ℕ → ℕ) → Type 0
HavePositions es placed at = placed ≡ true → (i : ℕ) → i < length es → at (slice_index_or (keys_of es) i 0) ≡ i

pub record AreIndexed (es : NamedRanges) (placed : Bool) (at : ℕ → ℕ) : Type 0 where
  pub unique : IsDistinct nat_eq (keys_of es)
  pub are_placed : HavePositions es placed at
