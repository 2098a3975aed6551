use Rattle.std.proofs.Common.{arith}
use Rattle.asm_explore.proofs.OutcomeLemmas.FullLists.{longer_count}
use Rattle.asm_explore.proofs.outcomes.sequence_outcomes.SequenceOutcomes.longer.Goals as goal

pub returns : goal.returns
returns c = omega (arith, longer_count c.args.self.now)
