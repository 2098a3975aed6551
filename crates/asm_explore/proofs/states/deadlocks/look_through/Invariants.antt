use Rattle.asm_explore.specs.code.Deadlocks.{AreJudged}
use Rattle.asm_explore.specs.code.StepOutcomes.{IsOverLimitOf}
use Rattle.asm_explore.proofs.states.deadlocks.look_through.Given as goal

-- of the nodes so far it is known
abbrev pub invariant-loop-number : goal.invariant-loop-number
invariant-loop-number g l = AreJudged (g.M.Machine.specification l.machine) (g.M.Machine.turns l.machine) (IsOverLimitOf (g.M.Machine.made l.machine) (g.M.Machine.limit l.machine)) (g.M.Machine.rests l.machine) (g.M.Machine.within l.machine)
    (g.M.Machine.shape l.machine) l.nodes l.first l.number l.depth l.known
