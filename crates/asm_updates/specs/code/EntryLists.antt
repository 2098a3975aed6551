-- Bridge to the code. Lists of entries, which may name a location more than once, as many workers
-- put them into one table.
--     range_in es n          the least and the greatest value that the entries have at location n
--     IsSummaryOf es s       the summary has the range of the entries at each location
--     AreInOrder count es    they name locations below a count, and no least value is above the
--                            greatest value next to it
--     updates_of shape es    the updates with the bounds of each entry
use Rattle.std.specs.Prelude.{◌≡◌, ℕ, ◌<◌, ◌≤◌, ◌==◌, if◌then◌else◌, [], ◌∷◌, ◌++◌, Option, Some, None, All}
use Rattle.std.specs.List.Sorted.{IsPermutation}
use Rattle.asm_state.specs.declared.value.Value.{Value}
use Rattle.asm_state.specs.code.Codes.{code_of}
use Rattle.asm_state.specs.Signature.{Shape, IsSound, count_of, location_at}
use Rattle.asm_state.specs.Updates.{UpdateSet, none, one, together, Range, widen}
use Rattle.asm_updates.specs.code.SummaryRanges.{SummaryRanges, NamedRanges, summary_range, range, AreRanges}
use Rattle.asm_updates.specs.code.Stands.{Stands, MarksFaults}

-- the range of one entry, at its own location
abbrev pub range_of_entry : ℕ × (Value × Value) → ℕ → Option Range
range_of_entry e n = if n == e.0 then Some (range e.1) else None

abbrev pub range_in : NamedRanges → ℕ → Option Range
range_in [] n = None
range_in (e ∷ es) n = widen (range_of_entry e n) (range_in es n)

abbrev pub IsSummaryOf : NamedRanges → SummaryRanges → Type 0
IsSummaryOf es s = (n : ℕ) → summary_range s n ≡ range_in es n

pub record AreInOrder (count : ℕ) (es : NamedRanges) : Type 0 where
  pub in_range : All (λ e. e.0 < count) es
  pub ordered : All (λ e. code_of e.1.0 ≤ code_of e.1.1) es

abbrev pub updates_of : Shape → NamedRanges → UpdateSet
updates_of shape [] = none
updates_of shape (e ∷ es) = together (updates_of shape es) (together (one (location_at shape e.0) e.1.0) (one (location_at shape e.0) e.1.1))

-- the order of entries makes no difference to their summary
abbrev pub OrderFree : Type 0
OrderFree = (es fs : NamedRanges) → IsPermutation es fs → (n : ℕ) → range_in es n ≡ range_in fs n

pub record EntryListLaws : Type 0 where
  -- two lists, one after the other, have the union of their summaries
  pub of_append : (es fs : NamedRanges) (n : ℕ) → range_in (es ++ fs) n ≡ widen (range_in es n) (range_in fs n)
  -- the entries of a summary have that summary
  pub of_summary : (s : SummaryRanges) → AreRanges s.count s.ranges → IsSummaryOf s.ranges s
  -- the summary of a list stands for the updates of its entries, if it marks its faults
  pub stands : (shape : Shape) (s : SummaryRanges) (es : NamedRanges) → IsSound shape → s.count ≡ count_of shape → AreInOrder s.count es → IsSummaryOf es s → MarksFaults shape s → Stands shape s (updates_of shape es)
