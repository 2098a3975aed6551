use Rattle.std.proofs.Common.{take}
use Rattle.asm_explore.specs.code.Sequences.{SortsAll}
use Rattle.asm_explore.proofs.outcomes.sequence_outcomes.add_all_of_part.Given as goal

-- the outcomes of the part so far are added
abbrev pub invariant-loop-i : goal.invariant-loop-i
invariant-loop-i l = SortsAll l.signature l.turns l.so_far.set l.choices (take l.i l.part) l.initial.sorted l.sorted
