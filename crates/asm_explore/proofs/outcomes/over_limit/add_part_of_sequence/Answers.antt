use Rattle.std.proofs.Common.{◌++◌}
use Rattle.asm_explore.specs.code.Sequences.{longer}
use Rattle.asm_explore.specs.code.ChoiceLists.{choice_lists, behind}
use Rattle.asm_explore.proofs.outcomes.over_limit.add_part_of_sequence.Goals as goal

pub returns-in-Err-clause-crowd : goal.returns-in-Err-clause-crowd
returns-in-Err-clause-crowd c = c.refused.ensures.crowd c.args.limit (choice_lists (longer c.args.sorted.now) ++ behind c.args.one.now.choices (choice_lists c.args.part.items)) c.in-Err.ensures.crowd
