use Rattle.asm_check.proofs.NameLemmas.FirstOfName.{texts_are_told}
use Rattle.asm_check.proofs.laws.texts_are_told.Goals as goal

pub returns : goal.returns
returns c = texts_are_told
