use Rattle.std.proofs.Common.{inr, refl}
use Rattle.std.proofs.lemmas.Result.{on_ok_weaker}
use Rattle.asm_explore_run.specs.ChoicesText.{choose_on}
use Rattle.asm_explore_run.proofs.choose_line.push_choose.Goals as goal

pub returns-in-None : goal.returns-in-None
returns-in-None c = on_ok_weaker c.push_place.result (λ is. (choose_on c.args.path.now, inr refl, is)) c.push_place.ensures
