-- Free. Each summary of a signature stands for some set: the one that has the bounds of each entry
-- at its location.
use Rattle.std.proofs.Common.{◌≡◌, ℕ, true, false, eqb, cond, [], ◌∷◌, Some, refl, sym, ap}
use Rattle.asm_state.specs.Location.{Location}
use Rattle.asm_state.specs.Signature.{Shape, IsSound, count_of, location_at}
use Rattle.asm_state.specs.Updates.{UpdateSet, none, one, together, widen}
use Rattle.asm_state.specs.declared.value.Value.{Value}
use Rattle.asm_updates.specs.code.SummaryRanges.{SummaryRanges, NamedRanges, first_range, range, AreRanges}
use Rattle.asm_updates.specs.code.Stands.{Stands, MarksFaults}
use Rattle.asm_updates.proofs.RangesFound.{AreEntries-head, AreEntries-tail, found-after}
use Rattle.asm_updates.proofs.StandingSummaries.{stands_for_none, stands_with, bounds_range, bounds_alone}

-- with the mark
abbrev of_entries : ℕ → NamedRanges → SummaryRanges
of_entries count es = record { count = count; ranges = es; may_fault = true }

any_is_marked : (shape : Shape) (count : ℕ) (es : NamedRanges) → MarksFaults shape (of_entries count es)
any_is_marked shape count es = λ off n h. let never : true ≡ false = off in cc

-- the first entry widens what the others have at its location, which is nothing
first_widens : (count : ℕ) (e : ℕ × (Value × Value)) (es : NamedRanges) → AreRanges count (e ∷ es) → (k : ℕ)
    → first_range (e ∷ es) k ≡ cond (eqb k e.0) (widen (first_range es e.0) (Some (range e.1))) (first_range es k)
first_widens count e es are k = ap (λ r. cond (eqb k e.0) (widen r (Some (range e.1))) (first_range es k)) (sym (found-after e es are.unique))

set_of : (shape : Shape) (count : ℕ) (es : NamedRanges) → IsSound shape → count ≡ count_of shape → AreRanges count es → (U : UpdateSet) × Stands shape (of_entries count es) U
set_of shape count [] sound is are = (none, stands_for_none shape (of_entries count []) sound is (λ n. refl))
set_of shape count (e ∷ es) sound is are =
    let rest = set_of shape count es sound is (AreEntries-tail count e es are) in
    let own = AreEntries-head count e es are in
    let l : Location = location_at shape e.0 in
    let bounds : UpdateSet = together (one l e.1.0) (one l e.1.1) in (
      together rest.0 bounds,
      stands_with shape (of_entries count es) (of_entries count (e ∷ es)) rest.0 bounds e.0 (range e.1) own.in_range refl (first_widens count e es are) (any_is_marked shape count (e ∷ es)) rest.1
          (bounds_range l e.1.0 e.1.1 own.ordered)
          (bounds_alone l e.1.0 e.1.1),
    )

pub some_set : (shape : Shape) (s : SummaryRanges) → IsSound shape → s.count ≡ count_of shape → AreRanges s.count s.ranges → MarksFaults shape s → (U : UpdateSet) × Stands shape s U
some_set shape s sound is are marks =
    let some = set_of shape s.count s.ranges sound is are in
    let stands = some.1 in (
      some.0,
      record { is_sound = sound; has_count = is; has_ranges = stands.has_ranges; names_within = stands.names_within; marks_faults = marks },
    )
