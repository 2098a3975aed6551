use Rattle.asm_check.proofs.NameLemmas.Introduced.{items_are_declared}
use Rattle.asm_check.proofs.laws.items_are_declared.Goals as goal

pub returns : goal.returns
returns c = items_are_declared
