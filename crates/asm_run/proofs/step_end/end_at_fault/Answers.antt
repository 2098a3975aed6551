use Rattle.std.proofs.Common.{subst}
use Rattle.asm_state.specs.Updates.{UpdateSet, IsFirstFault}
use Rattle.asm_updates.specs.code.Faults.{fault_of}
use Rattle.asm_updates.specs.declared.fault.Fault.{Fault}
use Rattle.asm_run.proofs.step_end.end_at_fault.Goals as goal

pub end_at_clash-requires : goal.end_at_clash-requires
end_at_clash-requires c = subst (λ (f : Fault). (U : UpdateSet) × IsFirstFault U (fault_of c.args.signature.now f)) c.in-Clash.is c.requires
