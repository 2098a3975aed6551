use Rattle.std.proofs.Common.{drop}
use Rattle.asm_check.proofs.CycleLemmas.StepsCollected.{AreSteps}
use Rattle.asm_check.proofs.cycles.declaration_bodies.positions.Given as goal

-- the names so far, and then those of the uses that are left, are those of all uses
abbrev pub invariant-loop-used : goal.invariant-loop-used
invariant-loop-used l = AreSteps l.names l.in_rule l.uses (drop l.used-index l.uses) l.positions.items
