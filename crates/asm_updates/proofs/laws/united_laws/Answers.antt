use Rattle.asm_updates.proofs.Unions.{united_laws}
use Rattle.asm_updates.proofs.laws.united_laws.Goals as goal

pub returns : goal.returns
returns c = united_laws
