use Rattle.asm_eval.specs.code.ShownViews.{shown}
use Rattle.asm_code.specs.code.Readings.{in_grid, position_from}
use Rattle.asm_state.specs.declared.value.Value.TheVariants.{Undef}
use Rattle.asm_eval.specs.code.Blocks.{at}
use Rattle.asm_eval.proofs.BlockLemmas.{EachSoFar}
use Rattle.asm_eval.proofs.block.grids_at.Given as goal

abbrev pub invariant-loop-k : goal.invariant-loop-k
invariant-loop-k l = EachSoFar Undef (λ k v. in_grid l.view.signature.now (shown l.view) l.place.first l.place.columns.count (position_from l.place.rows.low l.place.rows.count (v)) (position_from l.place.columns.low l.place.columns.count (at l.others k))) l.initial.values l.values l.k
