use Rattle.asm_explore.proofs.OverLimits.{over_limit}
use Rattle.asm_explore.proofs.laws.over_limit.Goals as goal

pub returns : goal.returns
returns c = over_limit
