use Rattle.std.proofs.Common.{subst}
use Rattle.asm_reader.specs.TermText.{ExplainsTerm}
use Rattle.asm_explore_texts.proofs.condition.read_condition.Goals as goal

pub returns-in-Err-Named-clause-refused : goal.returns-in-Err-Named-clause-refused
returns-in-Err-Named-clause-refused c spec = (subst (ExplainsTerm c.args.condition.now) c.in-Err-Named.field-0-is c.in-Err-Named.ensures.refused, c.at.ensures)

pub returns-in-Err-Named-clause-accepted : goal.returns-in-Err-Named-clause-accepted
returns-in-Err-Named-clause-accepted c t is = let memory = c.in-Err-Named.ensures.accepted t is in absurd (cc (memory, c.in-Err-Named.field-0-is))
