use Rattle.asm_resolve.proofs.ResolvingLaws.{resolving_laws}
use Rattle.asm_resolve.proofs.laws.resolving_laws.Goals as goal

pub returns : goal.returns
returns c = resolving_laws
