use Rattle.std.proofs.Common.{subst}
use Rattle.asm_state.specs.Updates.{IsFirstFault}
use Rattle.asm_updates.specs.Faults.{fault_of}
use Rattle.asm_updates.specs.declared.fault.Fault.{Fault as NumberedFault}
use Rattle.asm_clash.proofs.FirstFaults.{outside_held}
use Rattle.asm_clash.proofs.fault_assignments.fault_number.Goals as goal

pub stray_number-requires : goal.stray_number-requires
stray_number-requires c =
    let a = c.args in
    let U = c.requires.first.0 in
    outside_held a.signature.now a.set.now U c.in-Outside.function c.requires.first.1
    (subst (λ (f : NumberedFault). IsFirstFault U (fault_of a.signature.now f)) c.in-Outside.is c.requires.first.2)
