use Rattle.asm_meaning.proofs.InitialContents.{initial_laws}
use Rattle.asm_meaning.proofs.laws.initial_laws.Goals as goal

pub returns : goal.returns
returns c = initial_laws
