use Rattle.asm_eval.specs.code.Evaluation.{evaluation_shape}
use Rattle.asm_tests.proofs.evaluation.pieces.parts_of.Goals as goal

pub open_piece-requires-clause-piece : goal.open_piece-requires-clause-piece
open_piece-requires-clause-piece c = c.piece_of-piece.ensures (evaluation_shape c.args.evaluation.now) c.requires
