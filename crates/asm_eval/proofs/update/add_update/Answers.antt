use Rattle.std.proofs.Common.{refl}
use Rattle.std.proofs.lemmas.Result.{on_ok_weaker}
use Rattle.asm_eval.proofs.update.add_update.Goals as goal

pub returns-in-None-clause-update : goal.returns-in-None-clause-update
returns-in-None-clause-update c =
    on_ok_weaker c.add_proper.result (λ added U stands. added c.args.signature.now U c.in-None.ensures.proper stands) c.add_proper.ensures.value

pub returns-in-Some-clause-update : goal.returns-in-Some-clause-update
returns-in-Some-clause-update c = on_ok_weaker c.add.result (λ added U stands. added c.args.signature.now U refl stands) c.add.ensures.value
