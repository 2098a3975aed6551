use Rattle.std.proofs.Common.{take}
use Rattle.asm_explore.specs.code.Sequences.{Exhausts}
use Rattle.asm_explore.proofs.outcomes.sequence_outcomes.exhaust_each.Given as goal

abbrev pub invariant-loop-i : goal.invariant-loop-i
invariant-loop-i l = Exhausts l.path l.initial.done.items (take l.i l.more) l.done.items
