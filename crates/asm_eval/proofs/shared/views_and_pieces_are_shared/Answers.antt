use Rattle.asm_code.proofs.SharedCodes.{sharing_laws-rules as rule_shared}
use Rattle.asm_eval.proofs.SharedPieces.{frame_shared, piece_shared, piece_sent}
use Rattle.asm_eval.proofs.shared.views_and_pieces_are_shared.Goals as goal

pub returns : goal.returns
returns c =
    let places = c.paths_and_parts_cross.ensures in
    record {
      views = c.views_are_shared.ensures;
      rules = rule_shared;
      frames = λ a. frame_shared a;
      pieces = λ a. piece_shared a places.paths places.parts;
      sent = λ a. piece_sent a places.paths_sent places.parts_sent;
    }
