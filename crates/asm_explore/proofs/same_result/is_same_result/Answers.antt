use Rattle.asm_explore.proofs.OutcomeLemmas.SameSets.{sets_shown}
use Rattle.asm_explore.proofs.same_result.is_same_result.Goals as goal

pub returns-in-Set-right : goal.returns-in-Set-right
returns-in-Set-right c = λ yes.
    sets_shown c.in-Set-right.other c.in-Set.set (c.is_same_set.ensures yes) c.args.right.now c.args.left.now c.in-Set-right.is c.in-Set.is
