use Rattle.asm_eval.specs.code.ShownViews.{shown}
use Rattle.asm_code.specs.code.Readings.{in_row, position_from}
use Rattle.asm_state.specs.declared.value.Value.TheVariants.{Undef}
use Rattle.asm_eval.proofs.BlockLemmas.{EachSoFar}
use Rattle.asm_eval.proofs.block.rows_at.Given as goal

abbrev pub invariant-loop-k : goal.invariant-loop-k
invariant-loop-k l = EachSoFar Undef (λ k v. in_row l.view.signature.now (shown l.view) l.first (position_from l.over.low l.over.count (v))) l.initial.values l.values l.k
