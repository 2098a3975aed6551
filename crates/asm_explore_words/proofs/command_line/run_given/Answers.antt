use Rattle.std.proofs.Common.{subst}
use Rattle.asm_explore_words.specs.WordsSaid.{IsQuestionRead}
use Rattle.asm_explore_words.proofs.command_line.run_given.Goals as goal

pub returns-clause-read : goal.returns-clause-read
returns-clause-read g c = subst (λ rows. IsQuestionRead c.args.asked.draws rows c.in_ok-question.field-0) c.in_ok-given.ensures.parsed.rows c.in_ok-question.ensures.read
