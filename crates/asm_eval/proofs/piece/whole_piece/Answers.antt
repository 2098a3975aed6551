use Rattle.std.proofs.Common.{◌∙◌}
use Rattle.std.proofs.lemmas.Result.{on_ok_weaker}
use Rattle.asm_eval.proofs.FromNothing.{from_nothing_laws-formed as formed_from_nothing}
use Rattle.asm_eval.specs.code.Pieces.{piece_yields}
use Rattle.asm_eval.specs.code.Evaluation.{evaluation_shape}
use Rattle.asm_eval.proofs.piece.whole_piece.Goals as goal

pub returns : goal.returns
returns g c =
    let a = c.args in
    let shape = evaluation_shape a.evaluation.now in
    let o = piece_yields a.evaluation.now a.piece.now in
    let begun = c.in_ok-forming.ensures in
    let made = c.form_piece-formed.new.forming in
    c.into_outcome.ensures shape o
    (on_ok_weaker c.form_piece-formed.result
    (λ formed. formed_from_nothing shape o c.in_ok-forming.forming.set made.set c.in_ok-forming.forming.instances made.instances begun.set begun.instances (c.form_piece-formed.ensures.count ∙ begun.count) formed)
    c.form_piece-formed.ensures.formed)
    c.form_piece-formed.ensures.exhausted
