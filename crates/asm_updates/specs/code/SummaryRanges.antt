-- Bridge to the code. What a summary has at each location, which goes by its number.
--     SummaryRanges       the named locations, each with its least and its greatest value, and
--                         whether one may be faulty
--     summary_range s n   the range of the values at location n, if it is named
--     Changes             what a call promises that changes the ranges of a summary
use Rattle.std.specs.Prelude.{◌≡◌, ℕ, Bool, false, ◌<◌, ◌≤◌, ◌==◌, if◌then◌else◌, nat_eq, List, [], ◌∷◌, Option, Some, None, All, Result, OnOk, OnErr}
use Rattle.std.specs.List.{IsDistinct}
use Rattle.std.specs.Map.{keys_of}
use Rattle.asm_state.specs.declared.value.Value.{Value}
use Rattle.asm_state.specs.code.Codes.{code_of}
use Rattle.asm_state.specs.Updates.{Range}

-- locations, each with its least and its greatest value
abbrev pub NamedRanges : Type 0
NamedRanges = List (ℕ × (Value × Value))

pub record SummaryRanges : Type 0 where
  pub count : ℕ
  pub ranges : NamedRanges
  pub may_fault : Bool

-- a mark of entries, which says nothing if there are none
abbrev pub marked : Bool → NamedRanges → Bool
marked mark [] = false
marked mark (e ∷ es) = mark

-- the range with these bounds
abbrev pub range : Value × Value → Range
range bounds = record { least = bounds.0; greatest = bounds.1 }

-- the range of the first entry of a location
abbrev pub first_range : NamedRanges → ℕ → Option Range
first_range [] n = None
first_range (e ∷ es) n = if n == e.0 then Some (range e.1) else first_range es n

abbrev pub summary_range : SummaryRanges → ℕ → Option Range
summary_range s n = first_range s.ranges n

-- locations below a count, each once, and no least value is above the greatest value next to it
pub record AreRanges (count : ℕ) (es : NamedRanges) : Type 0 where
  pub unique : IsDistinct nat_eq (keys_of es)
  pub in_range : All (λ e. e.0 < count) es
  pub ordered : All (λ e. code_of e.1.0 ≤ code_of e.1.1) es

-- what a call promises that gives a summary this range at each location
pub record Changes {T E : Type 0} (old new : SummaryRanges) (changed : ℕ → Option Range) (result : Result T E) : Type 0 where
  pub count : new.count ≡ old.count
  pub entries : OnOk result ((k : ℕ) → summary_range new k ≡ changed k)
  pub err : OnErr result (new ≡ old)
