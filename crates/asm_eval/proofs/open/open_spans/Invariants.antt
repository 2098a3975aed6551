use Rattle.std.proofs.Common.{◌≡◌, ◌-◌, ◌≤◌, ◌++◌, map, All}
use Rattle.asm_code.specs.code.RuleViews.{rule_of}
use Rattle.asm_eval.proofs.OpenedRules.{spans_from}
use Rattle.asm_eval.specs.code.Frames.{readings_of}
use Rattle.asm_eval.specs.code.Opening.{work_of}
use Rattle.asm_eval.specs.code.Pieces.{IsPiece}
use Rattle.asm_eval.specs.code.Evaluation.{frame_locations, evaluation_shape}
use Rattle.asm_eval.proofs.open.open_spans.Given as goal

abbrev pub decreases-loop-next : goal.decreases-loop-next
decreases-loop-next g l = l.to - l.next

-- the works of the pieces so far, and those of the spans that are left
abbrev pub invariant-loop-next : goal.invariant-loop-next
invariant-loop-next g l =
    let shape = evaluation_shape l.evaluation in
    let works = spans_from l.cut (rule_of l.piece.rule.now) (readings_of shape l.piece.frame) (frame_locations shape l.piece.frame) l.piece.path l.to in
    record {
      low : l.from ≤ l.next;
      high : l.next ≤ l.to;
      works : map (work_of shape) l.pieces.items ++ works l.next ≡ works l.from;
      are_pieces : All (IsPiece shape) l.pieces.items;
    }
