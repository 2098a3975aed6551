use Rattle.std.proofs.Common.{ℕ, ◌≢◌, ◌<◌, List, [], get_or}
use Rattle.asm_state.specs.declared.value.Value.{Value}
use Rattle.asm_state.specs.Signature.{domain_in}
use Rattle.asm_state.specs.Tables.{argument_lists}
use Rattle.asm_state.proofs.signature_limits.is_earlier_entry.Given as goal

abbrev pub invariant-loop-j : goal.invariant-loop-j
invariant-loop-j l = (j : ℕ) (d : List Value × Value) → j < l.j → (get_or l.entries j d).0 ≢ get_or (argument_lists (domain_in l.universes l.domain)) l.k []
