-- Bridge to the code. Kinds of faults.
--     is_deadlock f     whether a fault is a deadlock
use Rattle.std.specs.Prelude.{Bool, true, false}
use Rattle.asm_explore.specs.declared.fault.Fault.{Fault}
use Rattle.asm_explore.specs.declared.fault.Fault.TheVariants as fault

abbrev pub is_deadlock : Fault → Bool
is_deadlock fault.Exhausted = false
is_deadlock fault.Inconsistent = false
is_deadlock fault.Wrong = false
is_deadlock fault.Deadlock = true
