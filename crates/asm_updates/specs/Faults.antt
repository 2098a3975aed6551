-- Definition. The faults that the code finds.
--     fault_of shape fault      the fault with its location
use Rattle.asm_state.specs.Signature.{Shape, location_at}
use Rattle.asm_state.specs.Updates.{Fault, Clash, Outside}
use Rattle.asm_updates.specs.declared.fault.Fault.{Fault as NumberedFault}
use Rattle.asm_updates.specs.declared.fault.Fault.TheVariants as numbered

abbrev pub fault_of : Shape → NumberedFault → Fault
fault_of shape (numbered.Clash n low high) = Clash (location_at shape n) (record { least = low; greatest = high })
fault_of shape (numbered.Outside f) = Outside f
