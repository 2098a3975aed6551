-- Bridge to the code. Faults of a step that a run shows, as the code has its end.
--     shows_fault fault step end     whether a run that ends so shows such a fault of this step
use Rattle.std.specs.Prelude.{ℕ, Bool, true, false, nat_eq}
use Rattle.asm_explore.specs.declared.fault.Fault.{Fault}
use Rattle.asm_explore.specs.declared.fault.Fault.TheVariants as fault
use Rattle.asm_run.specs.declared.end.End.{End}
use Rattle.asm_run.specs.declared.end.End.TheVariants.{Clash, Exhausted, Limit, Outside}

abbrev pub shows_fault : Fault → (step : ℕ) → End → Bool
shows_fault fault.Exhausted step Limit = false
shows_fault fault.Exhausted step (Clash i f vs least greatest) = false
shows_fault fault.Exhausted step (Outside i f) = false
shows_fault fault.Exhausted step (Exhausted i p) = nat_eq i step
shows_fault fault.Inconsistent step Limit = false
shows_fault fault.Inconsistent step (Clash i f vs least greatest) = nat_eq i step
shows_fault fault.Inconsistent step (Outside i f) = nat_eq i step
shows_fault fault.Inconsistent step (Exhausted i p) = false
shows_fault fault.Wrong step Limit = true
shows_fault fault.Wrong step (Clash i f vs least greatest) = false
shows_fault fault.Wrong step (Outside i f) = false
shows_fault fault.Wrong step (Exhausted i p) = false
shows_fault fault.Deadlock step Limit = true
shows_fault fault.Deadlock step (Clash i f vs least greatest) = false
shows_fault fault.Deadlock step (Outside i f) = false
shows_fault fault.Deadlock step (Exhausted i p) = false
