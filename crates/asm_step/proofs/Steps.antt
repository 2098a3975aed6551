-- Free. What comes of a step.
--     faulty_ends     a set with a first fault isn't consistent
use Rattle.asm_state.specs.Location.{Proper, Stray}
use Rattle.asm_state.specs.Updates.{UpdateSet, IsConsistent, Fault, Clash, Outside, IsFirstFault}
use Rattle.asm_state.proofs.UpdateLemmas.Faults.{fault_laws}

pub faulty_ends : (U : UpdateSet) (fault : Fault) → IsFirstFault U fault → ¬ (IsConsistent U)
faulty_ends U (Clash (Proper f vs) r) first consistent = (fault_laws.no_fault U).0 consistent (Proper f vs) first.0.is_faulty
faulty_ends U (Clash (Stray f) r) first consistent = absurd first
faulty_ends U (Outside f) first consistent = (fault_laws.no_fault U).0 consistent (Stray f) first.is_faulty
