use Rattle.asm_eval.specs.code.Evaluation.{evaluation_shape}
use Rattle.asm_eval.specs.code.Pieces.{piece_yields}
use Rattle.asm_run.proofs.RoundLemmas.Tasks.{set_worked}
use Rattle.asm_run.proofs.job.put_piece.Goals as goal

pub returns-in-Ok-clause-leaves : goal.returns-in-Ok-clause-leaves
returns-in-Ok-clause-leaves g c =
    let a = c.args in
    let at = a.job.now.evaluation.now in
    let made = c.form_piece.new.forming in
    record {
      worked = set_worked at (evaluation_shape at) a.task (piece_yields at a.piece.now) a.hand.now.seat c.put_set.new.seat a.hand.now.own.set made.set made.instances
          c.requires.hand.empty c.in-Ok.ensures.formed c.put_set.ensures.sound c.put_set.ensures.seat;
      refused = tt;
    }
