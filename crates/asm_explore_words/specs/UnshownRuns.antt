-- Definition. Runs that can't be shown.
--     fault_of_unshown why     the fault of a report that would show one
use Rattle.asm_explore_words.specs.declared.fault.Fault.{Fault}
use Rattle.asm_explore_words.specs.declared.fault.Fault.TheVariants as fault
use Rattle.asm_explore_words.specs.declared.fault.Unshown.{Unshown}
use Rattle.asm_explore_words.specs.declared.fault.Unshown.TheVariants as unshown

abbrev pub fault_of_unshown : Unshown → Fault
fault_of_unshown unshown.Memory = fault.Memory
fault_of_unshown unshown.Unconfirmed = fault.Unconfirmed
