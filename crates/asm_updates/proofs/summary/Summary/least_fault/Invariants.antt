use Rattle.std.proofs.Common.{drop}
use Rattle.asm_updates.proofs.Faults.{IsSoFar}
use Rattle.asm_updates.proofs.summary.Summary.least_fault.Given as goal

-- the locations so far have no fault below the end, where the first fault is
abbrev pub invariant-loop-i : goal.invariant-loop-i
invariant-loop-i l = IsSoFar l.signature l.self (drop l.i l.self.ranges) l.end l.first
