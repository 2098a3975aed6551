use Rattle.asm_state.proofs.Counts.{CountsTo}
use Rattle.asm_state.proofs.signature_limits.counts_fit.Given as goal

abbrev pub invariant-loop-f : goal.invariant-loop-f
invariant-loop-f l = CountsTo (record { universes = l.universes; functions = l.functions }) l.f l.locations l.static_lists
