use Rattle.std.proofs.Common.{take}
use Rattle.asm_explore.specs.code.Sequences.{AddsOutcome}
use Rattle.asm_explore.proofs.outcomes.sequence_outcomes.add_each.Given as goal

abbrev pub invariant-loop-i : goal.invariant-loop-i
invariant-loop-i l = AddsOutcome l.initial.done.items (take l.i l.more) l.done.items
