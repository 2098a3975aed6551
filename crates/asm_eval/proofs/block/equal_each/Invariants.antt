use Rattle.asm_state.specs.Operation.{op}
use Rattle.asm_state.specs.declared.operation.Op.TheVariants.{Equal}
use Rattle.asm_state.specs.declared.value.Value.TheVariants.{Undef}
use Rattle.asm_eval.proofs.BlockLemmas.{EachSoFar}
use Rattle.asm_eval.proofs.block.equal_each.Given as goal

abbrev pub invariant-loop-k : goal.invariant-loop-k
invariant-loop-k l = EachSoFar Undef (λ k v. op Equal (v) l.right) l.initial.values l.values l.k
