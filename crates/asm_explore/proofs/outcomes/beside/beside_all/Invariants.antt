use Rattle.std.proofs.Common.{take}
use Rattle.asm_explore.proofs.OutcomeLemmas.ListLemmas.{AreJoined}
use Rattle.asm_explore.proofs.outcomes.beside.beside_all.Given as goal

-- the outcomes so far of the one list are beside those of the other
abbrev pub invariant-loop-i : goal.invariant-loop-i
invariant-loop-i l = AreJoined l.signature (take l.i l.left) l.right l.found.items
