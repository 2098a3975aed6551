-- Free. The marks of sets that are made of others.
--     joined_marked     a set that stands for what two others make of what they stand for

use Rattle.std.proofs.Common.{◌≡◌, sym, ◌∙◌}
use Rattle.asm_state.specs.Signature.{Shape}
use Rattle.asm_state.specs.Updates.{UpdateSet}
use Rattle.asm_updates.specs.code.SummaryRanges.{SummaryRanges, AreRanges}
use Rattle.asm_updates.specs.code.Stands.{Stands}
use Rattle.asm_updates.proofs.StandingLaws.{standing_laws}
use Rattle.asm_explore.specs.code.FaultMarks.{IsMarked}

pub joined_marked : (a b joined : SummaryRanges) (make : UpdateSet → UpdateSet → UpdateSet) → AreRanges a.count a.ranges → AreRanges b.count b.ranges → IsMarked a → IsMarked b
    → b.count ≡ a.count → joined.count ≡ a.count
    → ((shape : Shape) (U V : UpdateSet) → Stands shape a U → Stands shape b V → Stands shape joined (make U V)) → IsMarked joined
joined_marked a b joined make sound sound_b marked marked_b same count stands shape is_sound counted =
    let first = standing_laws.some shape a is_sound (sym count ∙ counted) sound (marked shape is_sound (sym count ∙ counted)) in
    let then = standing_laws.some shape b is_sound (same ∙ sym count ∙ counted) sound_b (marked_b shape is_sound (same ∙ sym count ∙ counted)) in
    (stands shape first.0 then.0 first.1 then.1).marks_faults
