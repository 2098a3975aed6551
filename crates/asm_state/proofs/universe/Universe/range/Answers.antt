use Rattle.std.proofs.Common.{rules}
use Rattle.asm_state.proofs.universe.Universe.range.Goals as goal

pub returns : goal.returns
returns c = search rules
