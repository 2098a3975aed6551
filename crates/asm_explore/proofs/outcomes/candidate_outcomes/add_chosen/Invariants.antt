use Rattle.std.proofs.Common.{take}
use Rattle.asm_explore.specs.code.OutcomeLists.{IsPicked}
use Rattle.asm_explore.proofs.outcomes.candidate_outcomes.add_chosen.Given as goal

-- the outcomes of the part so far are added
abbrev pub invariant-loop-i : goal.invariant-loop-i
invariant-loop-i l = IsPicked l.path l.number (take l.i l.part) l.initial.found.items l.found.items
