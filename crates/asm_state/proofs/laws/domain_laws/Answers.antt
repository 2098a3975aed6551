use Rattle.asm_state.proofs.Domains.{domain_laws}
use Rattle.asm_state.proofs.laws.domain_laws.Goals as goal

pub returns : goal.returns
returns c = domain_laws
