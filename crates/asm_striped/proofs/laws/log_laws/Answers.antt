use Rattle.asm_striped.proofs.LogLaws.{log_laws}
use Rattle.asm_striped.proofs.laws.log_laws.Goals as goal

pub returns : goal.returns
returns c = log_laws
