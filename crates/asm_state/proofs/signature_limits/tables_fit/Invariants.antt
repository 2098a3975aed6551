use Rattle.std.specs.List.{AllWithin}
use Rattle.asm_state.specs.declared.function.Function.{Function}
use Rattle.asm_state.specs.Signature.{domain_in}
use Rattle.asm_state.specs.Tables.{IsTableOf}
use Rattle.asm_state.proofs.signature_limits.tables_fit.Given as goal

abbrev pub invariant-loop-function : goal.invariant-loop-function
invariant-loop-function l = AllWithin (λ (f : Function). IsTableOf (domain_in l.universes f.domain) f.table) l.functions 0 l.function-index
