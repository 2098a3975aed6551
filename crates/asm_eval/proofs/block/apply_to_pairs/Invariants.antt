use Rattle.asm_state.specs.Operation.{op}
use Rattle.asm_state.specs.declared.value.Value.TheVariants.{Undef}
use Rattle.asm_eval.specs.code.Blocks.{at}
use Rattle.asm_eval.proofs.BlockLemmas.{EachSoFar}
use Rattle.asm_eval.proofs.block.apply_to_pairs.Given as goal

abbrev pub invariant-loop-k : goal.invariant-loop-k
invariant-loop-k l = EachSoFar Undef (λ k v. op l.operation (v) (at l.others k)) l.initial.values l.values l.k
