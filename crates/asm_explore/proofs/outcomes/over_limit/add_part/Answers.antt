use Rattle.std.proofs.Common.{◌++◌}
use Rattle.asm_explore.specs.code.ChoiceLists.{choice_lists, with_choice}
use Rattle.asm_explore.proofs.outcomes.over_limit.add_part.Goals as goal

pub returns-in-Err-clause-crowd : goal.returns-in-Err-clause-crowd
returns-in-Err-clause-crowd c = c.refused.ensures.crowd c.args.limit (choice_lists c.args.found.now.items ++ with_choice c.args.path.now c.args.number (choice_lists c.args.part.items)) c.in-Err.ensures.crowd
