use Rattle.std.proofs.Common.{take}
use Rattle.asm_state.specs.Signature.{state_of}
use Rattle.asm_explore.specs.code.StepsAhead.{IsFound}
use Rattle.asm_explore.specs.code.OutcomeLists.{Each}
use Rattle.asm_explore.proofs.LookedAhead.{Leads}
use Rattle.asm_explore.proofs.look_ahead.look_ahead.Given as goal

-- what the first outcomes lead to is reached, or found
abbrev pub invariant-loop-k : goal.invariant-loop-k
invariant-loop-k g l = record {
  found : Each (IsFound (g.M.Machine.shape l.machine) (g.M.Machine.specification l.machine) (g.M.Machine.turns l.machine) (state_of (g.M.Machine.shape l.machine) l.from)) l.states;
  leads : Leads (g.M.Machine.shape l.machine) (state_of (g.M.Machine.shape l.machine) l.from) l.nodes l.outcomes l.states (take l.k l.outcomes);
}
