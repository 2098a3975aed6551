-- Free. What a view shows if its summary stands for a consistent set: the state in which the set
-- has been fired.
use Rattle.std.proofs.Common.{◌≡◌, ℕ, Option, Some, None, refl, sym, ap}
use Rattle.asm_state.specs.Location.{Location, Proper, Stray, State}
use Rattle.asm_state.specs.Signature.{Shape}
use Rattle.asm_state.specs.Updates.{UpdateSet, Has, IsConsistent, Range, range_at, IsRangeOf, overwritten, fire}
use Rattle.asm_state.proofs.UpdateLemmas.Summaries.{summary_laws}
use Rattle.asm_updates.specs.code.SummaryRanges.{SummaryRanges, AreRanges}
use Rattle.asm_updates.specs.code.Stands.{Stands}
use Rattle.asm_updates.proofs.StandingLaws.{standing_laws}
use Rattle.asm_eval.specs.code.ShownStates.{seen}

module _ (shape : Shape) (A : State) (over : SummaryRanges) (U : UpdateSet) (stands : Stands shape over U) (sound : AreRanges over.count over.ranges) where
  no_range : (f : ℕ) (r : Option Range) → IsConsistent U → IsRangeOf (Has U (Stray f)) r → r ≡ None
  no_range f None consistent is = refl
  no_range f (Some r) consistent is = absurd (consistent.no_stray f r.least is.has_least)

  fired_at : IsConsistent U → (l : Location) → seen shape A over l ≡ fire A U l
  unfolding seen fire
  fired_at consistent (Proper f vs) = ap (λ r. overwritten r (A (Proper f vs))) (standing_laws.at_location shape over U (Proper f vs) sound stands)
  fired_at consistent (Stray f) = ap (λ r. overwritten r (A (Stray f))) (sym (no_range f (range_at U (Stray f)) consistent (summary_laws.exists U (Stray f))))

  pub seen_fired : IsConsistent U → seen shape A over ≡ fire A U
  seen_fired consistent = λ i l. fired_at consistent l i
