use Rattle.asm_eval.specs.code.Evaluation.{evaluation_shape}
use Rattle.asm_tests.proofs.evaluation.pieces.shows.Goals as goal

pub positions_of-requires : goal.positions_of-requires
positions_of-requires c = c.piece_of-piece.ensures (evaluation_shape c.args.evaluation.now) c.requires
