use Rattle.std.proofs.Common.{rules}
use Rattle.asm_state.proofs.value.Value.code.Goals as goal

pub returns-in-Number-clause-code : goal.returns-in-Number-clause-code
returns-in-Number-clause-code c = search rules
