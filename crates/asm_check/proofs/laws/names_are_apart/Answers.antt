use Rattle.asm_check.proofs.NameLemmas.Introduced.{names_are_apart}
use Rattle.asm_check.proofs.laws.names_are_apart.Goals as goal

pub returns : goal.returns
returns c = names_are_apart
