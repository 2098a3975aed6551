-- Free. The laws of the sets that summaries stand for.
use Rattle.std.proofs.Common.{◌≡◌, ℕ, ◌<◌, sym, ap, subst, ◌∙◌, ◌↔◌}
use Rattle.asm_state.specs.Location.{State}
use Rattle.asm_state.specs.Signature.{Shape, count_of, location_at}
use Rattle.asm_state.specs.UpdateLaws.{LeavesNoFault}
use Rattle.asm_state.specs.Updates.{UpdateSet, IsConsistent, range_at, overwritten, fire}
use Rattle.asm_state.proofs.UpdateLemmas.Summaries.{summary_laws}
use Rattle.asm_updates.specs.code.SummaryRanges.{SummaryRanges, summary_range}
use Rattle.asm_updates.specs.code.Stands.{Stands}
use Rattle.asm_updates.specs.code.StandingLaws.{StandingLaws}
use Rattle.asm_updates.proofs.SomeSet.{some_set}
use Rattle.asm_updates.proofs.StandingSummaries.{stands_for_none, stands_for_union, stands_for_merge, entry_at_location}
use Rattle.asm_updates.proofs.Faults.{consistent}

alike : (shape : Shape) (s t : SummaryRanges) (U : UpdateSet) → t.count ≡ s.count → t.may_fault ≡ s.may_fault → ((n : ℕ) → summary_range t n ≡ summary_range s n) → Stands shape s U → Stands shape t U
alike shape s t U count mark each stands = record {
  is_sound = stands.is_sound;
  has_count = count ∙ stands.has_count;
  has_ranges = λ n h. each n ∙ stands.has_ranges n h;
  names_within = stands.names_within;
  marks_faults = λ off n h. subst (LeavesNoFault (location_at shape n)) (sym (each n)) (stands.marks_faults (sym mark ∙ off) n h);
}

consistency : (shape : Shape) (s : SummaryRanges) (U : UpdateSet) → Stands shape s U → IsConsistent U ↔ ((n : ℕ) → n < count_of shape → LeavesNoFault (location_at shape n) (summary_range s n))
consistency shape s U stands = (
  λ is n h. subst (LeavesNoFault (location_at shape n)) (sym (stands.has_ranges n h)) ((summary_laws.consistency U (range_at U) (summary_laws.exists U)).0 is (location_at shape n)),
  λ all. consistent shape s U stands all,
)

firing : (shape : Shape) (s : SummaryRanges) (U : UpdateSet) (A : State) (n : ℕ) → Stands shape s U → n < count_of shape → fire A U (location_at shape n) ≡ overwritten (summary_range s n) (A (location_at shape n))
firing shape s U A n stands h =
    summary_laws.firing A U (range_at U) (summary_laws.exists U) (location_at shape n)
    ∙ ap (λ r. overwritten r (A (location_at shape n))) (sym (stands.has_ranges n h))

pub standing_laws : StandingLaws
standing_laws = record {
  some = some_set;
  at_location = entry_at_location;
  alike = alike;
  of_none = stands_for_none;
  of_union = stands_for_union;
  of_merge = stands_for_merge;
  consistency = consistency;
  firing = firing;
}
