use Rattle.std.proofs.lemmas.Result.{on_ok_weaker}
use Rattle.asm_check.proofs.NameLemmas.DeclarationsGathered.{predeclared_gathered}
use Rattle.asm_check.proofs.names.first_names.predeclare_all.Goals as goal

pub returns : goal.returns
returns c = on_ok_weaker _ (predeclared_gathered _ _ _ _ _ _ _ _ _ _ _ c.in_ok-predeclare.ensures c.in_ok-predeclare-2.ensures) c.predeclare-3.ensures
