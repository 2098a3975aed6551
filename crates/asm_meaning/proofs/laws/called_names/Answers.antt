use Rattle.asm_meaning.proofs.CalledNames.{called_names}
use Rattle.asm_meaning.proofs.laws.called_names.Goals as goal

pub returns : goal.returns
returns c = called_names
