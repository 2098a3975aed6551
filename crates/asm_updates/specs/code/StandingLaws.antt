-- Bridge to the code. Laws of the sets that summaries stand for.
use Rattle.std.specs.Prelude.{◌≡◌, ◌↔◌, ℕ, ◌<◌, None}
use Rattle.asm_state.specs.Location.{Location, State}
use Rattle.asm_state.specs.Signature.{Shape, IsSound, count_of, location_at, number_at}
use Rattle.asm_state.specs.UpdateLaws.{LeavesNoFault}
use Rattle.asm_state.specs.Updates.{UpdateSet, IsConsistent, none, together, merge, widen, later_range, range_at, overwritten, fire}
use Rattle.asm_updates.specs.code.SummaryRanges.{SummaryRanges, summary_range, AreRanges}
use Rattle.asm_updates.specs.code.Stands.{Stands, MarksFaults}

pub record StandingLaws : Type 0 where
  -- each summary of a signature stands for some set, if it marks its faults
  pub some : (shape : Shape) (s : SummaryRanges) → IsSound shape → s.count ≡ count_of shape → AreRanges s.count s.ranges → MarksFaults shape s → (U : UpdateSet) × Stands shape s U
  -- a summary has the range of each location in the set, by its number, and no entry for what is no
  -- location of the signature
  pub at_location : (shape : Shape) (s : SummaryRanges) (U : UpdateSet) (l : Location) → AreRanges s.count s.ranges → Stands shape s U → summary_range s (number_at shape l) ≡ range_at U l
  -- a summary with the same entries and the same mark stands for the same sets
  pub alike : (shape : Shape) (s t : SummaryRanges) (U : UpdateSet) → t.count ≡ s.count → t.may_fault ≡ s.may_fault → ((n : ℕ) → summary_range t n ≡ summary_range s n) → Stands shape s U → Stands shape t U
  -- one without entries stands for the empty set
  pub of_none : (shape : Shape) (s : SummaryRanges) → IsSound shape → s.count ≡ count_of shape → ((n : ℕ) → summary_range s n ≡ None) → Stands shape s none
  -- the entries of a union and of a turbo merge come of those of the two sets
  pub of_union : (shape : Shape) (s t both : SummaryRanges) (U V : UpdateSet) → both.count ≡ s.count → ((n : ℕ) → summary_range both n ≡ widen (summary_range s n) (summary_range t n)) → MarksFaults shape both → Stands shape s U → Stands shape t V → Stands shape both (together U V)
  pub of_merge : (shape : Shape) (s t both : SummaryRanges) (U V : UpdateSet) → both.count ≡ s.count → ((n : ℕ) → summary_range both n ≡ later_range (summary_range s n) (summary_range t n)) → MarksFaults shape both → Stands shape s U → Stands shape t V → Stands shape both (merge U V)
  -- a set is consistent if each location is settled
  pub consistency : (shape : Shape) (s : SummaryRanges) (U : UpdateSet) → Stands shape s U → IsConsistent U ↔ ((n : ℕ) → n < count_of shape → LeavesNoFault (location_at shape n) (summary_range s n))
  -- what firing makes of a location's content
  pub firing : (shape : Shape) (s : SummaryRanges) (U : UpdateSet) (A : State) (n : ℕ) → Stands shape s U → n < count_of shape → fire A U (location_at shape n) ≡ overwritten (summary_range s n) (A (location_at shape n))
