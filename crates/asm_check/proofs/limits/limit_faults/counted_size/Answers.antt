use Rattle.std.proofs.Common.{sym}
use Rattle.asm_check.proofs.LimitLemmas.CountedSizes.{counted_none}
use Rattle.asm_check.proofs.limits.limit_faults.counted_size.Goals as goal

pub returns-in-None-clause-size : goal.returns-in-None-clause-size
returns-in-None-clause-size c = λ spec at table sizes. sym (counted_none spec (record { at = at; text = c.args.name.now }) (c.in-None.ensures.missing spec table))
