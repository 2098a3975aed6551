use Rattle.std.proofs.Common.{take}
use Rattle.asm_explore.specs.code.OutcomeLists.{IsJoined}
use Rattle.asm_explore.proofs.outcomes.beside.beside_each.Given as goal

-- the outcome is beside those of the list so far
abbrev pub invariant-loop-i : goal.invariant-loop-i
invariant-loop-i l = IsJoined l.signature l.left (take l.i l.right) l.initial.found.items l.found.items
