use Rattle.std.proofs.Common.{None, sym, ap, ◌∙◌, arith}
use Rattle.std.specs.Prelude.{slice_index_or}
use Rattle.asm_eval.specs.code.Evaluation.{frame_locations}
use Rattle.asm_eval.proofs.FramePositions.{none_within}
use Rattle.asm_eval.proofs.target.+location_at_position.Goals as goal

pub returns-then-position-values-clause-location : goal.returns-then-position-values-clause-location
returns-then-position-values-clause-location t c =
    λ shape. none_within c.in-Values.values.now (frame_locations shape c.in-Values.outer.now) c.args.position (omega arith)
    ∙ sym (ap (λ f. slice_index_or (frame_locations shape f) c.args.position None) c.in-Values.is)
