-- Free. The first fault of a set is at a location of the signature, and the set isn't consistent.
--     clash_within       the number of a clash's location is below their count
--     outside_held       a function that is updated outside its domain is controlled
--     first_is_fault     the set isn't consistent
use Rattle.std.proofs.Common.{ℕ, ◌<◌, subst, inl, inr}
use Rattle.std.proofs.lemmas.Bool.{cases_lt}
use Rattle.std.proofs.lemmas.List.{get_or_past}
use Rattle.asm_state.specs.declared.function.FunctionKind.TheVariants.{Controlled}
use Rattle.asm_state.specs.Location.{Proper, Stray}
use Rattle.asm_state.specs.Signature.{Shape, HasKind, count_of, location_at, locations}
use Rattle.asm_state.specs.Updates.{UpdateSet, Fault, Clash, Outside, IsConsistent, IsFirstFault, Range}
use Rattle.asm_state.proofs.UpdateLemmas.Faults.{fault_laws}
use Rattle.asm_state.proofs.LocationLemmas.NumberedLocations.{number_laws}
use Rattle.asm_updates.specs.code.SummaryRanges.{SummaryRanges}
use Rattle.asm_updates.specs.code.Stands.{Stands}

module _ (shape : Shape) (set : SummaryRanges) (U : UpdateSet) where
  pub clash_within : (n : ℕ) (r : Range) → IsFirstFault U (Clash (location_at shape n) r) → n < count_of shape
  clash_within n r first = elim (cases_lt n (count_of shape)) [
    | inl low ↦ low
    | inr past ↦ absurd (subst (λ l. IsFirstFault U (Clash l r)) (get_or_past (locations shape) n (Stray 0) past) first)
  ]

  pub outside_held : (f : ℕ) → Stands shape set U → IsFirstFault U (Outside f) → HasKind Controlled shape f
  outside_held f stands first = number_laws.is_held shape (Stray f) (stands.names_within (Stray f) first.is_faulty)

pub first_is_fault : (U : UpdateSet) (fault : Fault) → IsFirstFault U fault → ¬ (IsConsistent U)
first_is_fault U (Clash (Proper f vs) r) first consistent = (fault_laws.no_fault U).0 consistent (Proper f vs) first.0.is_faulty
first_is_fault U (Clash (Stray f) r) first consistent = absurd first
first_is_fault U (Outside f) first consistent = (fault_laws.no_fault U).0 consistent (Stray f) first.is_faulty
