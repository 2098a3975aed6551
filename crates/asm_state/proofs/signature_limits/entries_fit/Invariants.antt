use Rattle.asm_state.specs.Signature.{domain_in}
use Rattle.asm_state.proofs.EntriesFit.{FitSoFar}
use Rattle.asm_state.proofs.signature_limits.entries_fit.Given as goal

abbrev pub invariant-loop-i : goal.invariant-loop-i
invariant-loop-i l = FitSoFar (domain_in l.universes l.domain) l.entries l.i l.end
