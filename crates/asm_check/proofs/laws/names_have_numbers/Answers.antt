use Rattle.asm_check.proofs.NumberLemmas.NamesNumbered.{names_have_numbers}
use Rattle.asm_check.proofs.laws.names_have_numbers.Goals as goal

pub returns : goal.returns
returns c = names_have_numbers
