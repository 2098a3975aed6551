use Rattle.std.proofs.Common.{◌≡◌, ◌≤◌, ◌++◌, length, map, All}
use Rattle.std.specs.Prelude.{option_map}
use Rattle.asm_code.specs.code.CodeViews.{code_of}
use Rattle.asm_code.specs.code.Readings.{universe_at}
use Rattle.asm_code.specs.code.RuleViews.{rule_of}
use Rattle.asm_eval.proofs.OpenedRules.{bodies_from}
use Rattle.asm_eval.specs.code.Frames.{readings_of}
use Rattle.asm_eval.specs.code.Opening.{work_of}
use Rattle.asm_eval.specs.code.Pieces.{IsPiece}
use Rattle.asm_eval.specs.code.Evaluation.{frame_locations, evaluation_shape, evaluation_state}
use Rattle.asm_eval.proofs.open.open_bodies.Given as goal

-- the works of the pieces so far, and those of the bodies for the values that are left
abbrev pub invariant-loop-i : goal.invariant-loop-i
invariant-loop-i g l =
    let shape = evaluation_shape l.evaluation in
    let works = bodies_from shape (evaluation_state l.evaluation) (option_map code_of l.test) (rule_of l.body) (readings_of shape l.frame) (frame_locations shape l.frame) l.path l.to (universe_at shape l.over) in
    record {
      low : l.from ≤ l.i;
      few : l.instances ≤ l.i;
      counted : l.instances ≡ length l.pieces.items;
      works : map (work_of shape) l.pieces.items ++ works l.i ≡ works l.from;
      are_pieces : All (IsPiece shape) l.pieces.items;
    }
