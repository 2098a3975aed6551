use Rattle.asm_state.proofs.Domains.{universe_laws}
use Rattle.asm_state.proofs.laws.universe_laws.Goals as goal

pub returns : goal.returns
returns c = universe_laws
