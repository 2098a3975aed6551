use Rattle.asm_meaning.proofs.CalledNames.{untold_names}
use Rattle.asm_meaning.proofs.laws.untold_names.Goals as goal

pub returns : goal.returns
returns c = untold_names
