use Rattle.std.proofs.lemmas.Result.{IfOk-weaker}
use Rattle.asm_run.proofs.job.open_into_parts.Goals as goal

pub returns : goal.returns
returns g c =
    let a = c.args in
    let r = a.evaluation.now in
    IfOk-weaker c.open_piece.result _ _ (λ o opens. (c.opening_laws.ensures r).loses_nothing a.cut a.piece.now o c.requires.cut c.requires.piece opens) c.open_piece.ensures
