use Rattle.asm_explore.specs.code.ChoiceLists.{choice_lists, all_joined}
use Rattle.asm_explore.proofs.outcomes.over_limit.beside_lists.Goals as goal

pub returns-in-Ok-clause-placed : goal.returns-in-Ok-clause-placed
returns-in-Ok-clause-placed c = c.in-Ok.ensures.placed c.args.path.now

pub returns-in-Err-clause-crowd : goal.returns-in-Err-clause-crowd
returns-in-Err-clause-crowd c = c.refused.ensures.crowd c.args.limit (all_joined (choice_lists c.args.left.items) (choice_lists c.args.right.items)) c.in-Err.ensures.crowd
