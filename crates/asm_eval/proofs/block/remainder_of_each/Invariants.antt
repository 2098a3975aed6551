use Rattle.asm_state.specs.Operation.{op}
use Rattle.asm_state.specs.declared.operation.Op.TheVariants.{Remainder}
use Rattle.asm_state.specs.declared.value.Value.TheVariants.{Number as Whole}
use Rattle.asm_state.specs.declared.value.Value.TheVariants.{Undef}
use Rattle.asm_eval.proofs.BlockLemmas.{EachSoFar}
use Rattle.asm_eval.proofs.block.remainder_of_each.Given as goal

abbrev pub invariant-loop-k : goal.invariant-loop-k
invariant-loop-k l = EachSoFar Undef (λ k v. op Remainder (v) (Whole l.right.number)) l.initial.values l.values l.k
