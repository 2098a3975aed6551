use Rattle.asm_eval.specs.code.Evaluation.{evaluation_shape}
use Rattle.asm_tests.proofs.evaluation.pieces.both_yield.Goals as goal

pub whole_piece-requires : goal.whole_piece-requires
whole_piece-requires c = c.piece_of.ensures (evaluation_shape c.args.evaluation.now) c.requires
