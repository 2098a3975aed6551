-- Bridge to the code. The update sets that a summary stands for.
--     Stands shape s U       the summary stands for U
--     MarksFaults shape s    no location is faulty, if s isn't marked as one that may have a fault
--     Adds shape V old new   the set V is added to whatever a summary stands for
use Rattle.std.specs.Prelude.{◌≡◌, ℕ, ◌<◌, false}
use Rattle.asm_state.specs.Location.{Location}
use Rattle.asm_state.specs.Signature.{Shape, IsSound, count_of, location_at, IsLocationOf}
use Rattle.asm_state.specs.UpdateLaws.{LeavesNoFault}
use Rattle.asm_state.specs.Updates.{UpdateSet, Names, together, range_at}
use Rattle.asm_updates.specs.code.SummaryRanges.{SummaryRanges, summary_range}

abbrev pub MarksFaults : Shape → SummaryRanges → Type 0
MarksFaults shape summary = summary.may_fault ≡ false → (n : ℕ) → n < count_of shape → LeavesNoFault (location_at shape n) (summary_range summary n)

-- a summary has the range of each location in the set, and the set names locations of the shape
-- alone, whose universes have no value twice; no location is faulty without the mark
pub record Stands (shape : Shape) (summary : SummaryRanges) (U : UpdateSet) : Type 0 where
  pub is_sound : IsSound shape
  pub has_count : summary.count ≡ count_of shape
  pub has_ranges : (n : ℕ) → n < count_of shape → summary_range summary n ≡ range_at U (location_at shape n)
  pub names_within : (l : Location) → Names U l → IsLocationOf shape l
  pub marks_faults : MarksFaults shape summary

abbrev pub Adds : Shape → (V : UpdateSet) → (old new : SummaryRanges) → Type 0
Adds shape V old new = (U : UpdateSet) → Stands shape old U → Stands shape new (together U V)
