use Rattle.std.proofs.Common.{◌≡◌, ◌++◌, drop, map, All}
use Rattle.asm_eval.proofs.OpenedRules.{parts_from}
use Rattle.asm_eval.specs.code.Frames.{readings_of}
use Rattle.asm_eval.specs.code.Opening.{work_of}
use Rattle.asm_eval.specs.code.Pieces.{IsPiece}
use Rattle.asm_eval.specs.code.Evaluation.{frame_locations, evaluation_shape}
use Rattle.asm_eval.proofs.open.open_parts.Given as goal

-- the works of the pieces so far, and those of the parts that are left
abbrev pub invariant-loop-i : goal.invariant-loop-i
invariant-loop-i g l =
    let shape = evaluation_shape l.evaluation in
    let works = parts_from (readings_of shape l.frame) (frame_locations shape l.frame) l.path in
    record {
      works : map (work_of shape) l.pieces.items ++ works l.i (drop l.i l.parts) ≡ works 0 l.parts;
      are_pieces : All (IsPiece shape) l.pieces.items;
    }
