-- Bridge to the code. The marks of sets that may have a fault.
--     IsMarked s      if a summary isn't marked, no location of it is faulty, by whatever shape it
--                     has the locations of
--     marked_is       which can be so in one way alone
use Rattle.std.specs.Prelude.{◌≡◌, Option, Some, None}
use Rattle.std.proofs.Props.{props}
use Rattle.asm_state.specs.Location.{Location, Proper, Stray}
use Rattle.asm_state.specs.Signature.{Shape, IsSound, count_of, location_at}
use Rattle.asm_state.specs.UpdateLaws.{LeavesNoFault}
use Rattle.asm_state.specs.Updates.{Range}
use Rattle.asm_updates.specs.code.SummaryRanges.{SummaryRanges, summary_range}
use Rattle.asm_updates.specs.code.Stands.{MarksFaults}

abbrev pub IsMarked : SummaryRanges → Type 0
IsMarked s = (shape : Shape) → IsSound shape → s.count ≡ count_of shape → MarksFaults shape s

settled_is : (l : Location) (r : Option Range) → IsProp (LeavesNoFault l r)
settled_is l None = hlevel props
settled_is (Proper f vs) (Some r) = hlevel props
settled_is (Stray f) (Some r) = hlevel props

pub marked_is : (s : SummaryRanges) → IsProp (IsMarked s)
marked_is s a b = λ i shape sound count no n low. settled_is (location_at shape n) (summary_range s n) (a shape sound count no n low) (b shape sound count no n low) i
